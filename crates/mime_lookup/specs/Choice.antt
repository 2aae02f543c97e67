-- The choice among the types that a name gives.
use Rattle.std.specs.Prelude.{◌≡◌, ◌⊎◌, MatchBool, ℕ, List, [], ◌∷◌, map, bytes_eq}
use Rattle.std.specs.List.{list_all}
use Rattle.mime_base.specs.Kept.{candidate_rules, kept_rules}
use Rattle.mime_base.specs.Database.Subclass.{Pairs, IsA, resolved}
use Rattle.mime_base.specs.declared.database.rule.GlobRule.{GlobRule}

-- the types of the kept rules, each after one alias step
unfoldable pub kept : Pairs → List GlobRule → List ℕ → List (List ℕ)
kept pairs rules name = map (λ rule. resolved pairs.aliases rule.kind) (kept_rules rules name)

-- the types of all rules that match, by falling rank, each after one alias step; those of the kept rules come first
unfoldable pub candidates : Pairs → List GlobRule → List ℕ → List (List ℕ)
candidates pairs rules name = map (λ rule. resolved pairs.aliases rule.kind) (candidate_rules rules name)

-- the first of these types that is the base or a subclass of it, else the default
abbrev pub IsFirst : Pairs → List ℕ → List ℕ → List (List ℕ) → List ℕ → Type 0
IsFirst pairs base default [] answer = answer ≡ default
IsFirst pairs base default (kind ∷ kinds) answer =
    (IsA pairs kind base × (answer ≡ kind))
    ⊎ ((IsA pairs kind base → ⊥) × IsFirst pairs base default kinds answer)

-- without a type what was sniffed; of types that are one type that type; else the first that
-- is what was sniffed or a subclass of it; else the first
abbrev pub ChoosesAmong : Pairs → List (List ℕ) → List ℕ → List ℕ → Type 0
ChoosesAmong pairs [] base answer = answer ≡ base
ChoosesAmong pairs (first ∷ more) base answer =
    MatchBool (list_all (bytes_eq first) more) (answer ≡ first)
    (IsFirst pairs base first (first ∷ more) answer)
