-- The targets of pairs by their names: one pair more, and alias steps.
use Rattle.std.proofs.Common.{◌≡◌, ℕ, ◌+◌, ◌<◌, Bool, true, false, cond, List, ◌∷◌, length, get_or, drop, Option, None, Some, option_map}
use Rattle.std.proofs.Common.{refl, sym, ap, ap₂, ◌∙◌, bytes_eq, add-one}
use Rattle.std.specs.Map.{update}
use Rattle.std.proofs.Math.Seq.{drop-cons}
use denote.Bor.{Bor}
use Rattle.mime_load.specs.Lent.{plain_pairs}
use Rattle.mime_load.specs.declared.pair.LentPair.{LentPair}
use Rattle.mime_lookup.specs.NameMap.{value_in}
use Rattle.mime_lookup.specs.Named.{AreNamed}
use Rattle.mime_lookup.specs.ReadBack.{AreTargets}
use Rattle.mime_lookup.specs.declared.name_map.NameMap.{NameMap}
use Rattle.mime_lookup.proofs.SpellingLemmas.Targets.{found_target}
use Rattle.mime_view.specs.Pairs.{looked_up}
use Rattle.mime_view.proofs.ListLemmas.Spelled.{found_or, resolved-looked_up}

-- what was found of a name
abbrev pub found_name : Option (Bor (List ℕ)) → Option (List ℕ)
found_name found = option_map (λ target. target.now) found

-- a pair in front of others, whose target is put into a map
pub looked_up-more : (pairs : List LentPair) (low : ℕ) (pair : LentPair) (name : List ℕ) (before : List ℕ → Option (Bor (List ℕ)))
    → low < length pairs → pair ≡ get_or pairs low pair
    → looked_up (plain_pairs (drop (low + 1) pairs)) name ≡ found_name (before name)
    → looked_up (plain_pairs (drop low pairs)) name ≡ found_name (update bytes_eq before pair.name.now (Some pair.target) name)
looked_up-more pairs low pair name before within is rest =
    ap (λ (ps : List LentPair). looked_up (plain_pairs ps) name) split ∙ by_test (bytes_eq pair.name.now name)
  where
    split : drop low pairs ≡ pair ∷ drop (low + 1) pairs
    split =
        drop-cons pairs low pair within
        ∙ ap₂ (λ (p : LentPair) (ps : List LentPair). p ∷ ps) (sym is) (ap (λ (n : ℕ). drop n pairs) (sym (add-one low)))

    by_test : (t : Bool) → cond t (Some pair.target.now) (looked_up (plain_pairs (drop (low + 1) pairs)) name)
        ≡ found_name (cond t (Some pair.target) (before name))
    by_test true = refl
    by_test false = rest

-- what was found of a name gives its alias step
found-step : (found : Option (Bor (List ℕ))) (kind : List ℕ) → found_or (found_name found) kind ≡ found_target found kind
found-step None kind = refl
found-step (Some target) kind = refl

-- the targets of aliases give alias steps
pub named-targets : (pairs : List (List ℕ × List ℕ)) (targets : NameMap (Bor (List ℕ)))
    → AreNamed pairs targets → AreTargets pairs targets
named-targets pairs targets are kind =
    resolved-looked_up pairs kind ∙ ap (λ found. found_or found kind) (are kind)
    ∙ found-step (value_in targets kind) kind
