-- The targets of aliases, and rules by them.
use Rattle.std.proofs.Common.{◌≡◌, ℕ, ◌<◌, List, [], ◌∷◌, length, map, get_or, Option, refl, sym, ap, ap₂, subst, arith}
use Rattle.std.specs.List.{All}
use Rattle.std.specs.Option.{option_map_or}
use Rattle.std.proofs.lemmas.List.{get_or-map, length-map}
use denote.Bor.{Bor}
use Rattle.mime_base.specs.Database.Lent.{plain_rule}
use Rattle.mime_base.specs.Kept.{FitsRank}
use Rattle.mime_base.specs.declared.database.lent.LentRule.{LentRule}
use Rattle.mime_base.specs.declared.database.rule.GlobRule.{GlobRule}
use Rattle.mime_load.specs.Lent.{plain_rules}
use Rattle.mime_lookup.specs.Indexed.{unaliased_rule}
use Rattle.mime_lookup.specs.ReadBack.{AreTargets, target_rule}
use Rattle.mime_lookup.specs.declared.name_map.NameMap.{NameMap}

-- the target that was found of a type, or the type itself
abbrev pub found_target : Option (Bor (List ℕ)) → List ℕ → List ℕ
found_target found kind = option_map_or (λ target. target.now) found kind

-- rules by the targets are rules after one alias step
pub rules_by_targets : (aliases : List (List ℕ × List ℕ)) (targets : NameMap (Bor (List ℕ)))
    → AreTargets aliases targets → (rules : List GlobRule) → map (target_rule targets) rules ≡ map (unaliased_rule aliases) rules
rules_by_targets aliases targets are [] = refl
rules_by_targets aliases targets are (rule ∷ rules) =
    let type : List ℕ → GlobRule =
    λ (kind : List ℕ). record { weight = rule.weight; kind = kind; pattern = rule.pattern; cased = rule.cased } in
    ap₂ (λ (x : GlobRule) (xs : List GlobRule). x ∷ xs) (sym (ap type (are rule.kind))) (rules_by_targets aliases targets are rules)

-- each rule of a list keeps the limits of ranks, where all do
pub rank_fits : (listed : List LentRule) → All FitsRank (plain_rules listed) → (place : ℕ) (d : LentRule) → place < length listed
    → FitsRank (plain_rule (get_or listed place d))
rank_fits listed all place d within =
    subst FitsRank (get_or-map plain_rule listed place d (plain_rule d) within)
    (all place (plain_rule d) (omega (arith, within, length-map listed plain_rule)))
