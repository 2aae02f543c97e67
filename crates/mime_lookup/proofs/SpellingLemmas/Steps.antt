-- What is one step above the types of a cache: one pair more, and the steps of what the cache spells.
use Rattle.std.proofs.Common.{◌≡◌, ℕ, ◌+◌, ◌<◌, Bool, true, false, cond, List, ◌∷◌, length, get_or, map, drop, Option, Some}
use Rattle.std.proofs.Common.{refl, sym, ap, ap₂, subst, ◌∙◌, bytes_eq, add-one}
use Rattle.std.specs.Map.{update}
use Rattle.std.specs.Option.{option_map_or}
use Rattle.std.proofs.Math.Seq.{drop-cons}
use Rattle.std.proofs.lemmas.Slice.Eq.{bytes_eq-Decides}
use Rattle.mime_base.specs.Database.{PlainDatabase, pairs_of}
use Rattle.mime_base.specs.Database.Subclass.{above, parents}
use Rattle.mime_load.specs.Lent.{plain_pairs}
use Rattle.mime_load.specs.declared.pair.LentPair.{LentPair}
use Rattle.mime_lookup.specs.PairsReadBack.{AreStepsOf, step_in}
use Rattle.mime_lookup.specs.Places.{IsAbove}
use Rattle.mime_lookup.specs.Spelling.{SpellsPairs}
use Rattle.mime_lookup.specs.declared.name_map.NameMap.{NameMap}
use Rattle.mime_lookup.specs.declared.places.Above.{Above}
use Rattle.mime_lookup.specs.declared.places.Above.TheVariants.{Nothing}
use Rattle.mime_lookup.proofs.SpellingLemmas.Parents.{above_once}

-- what was found above a type, or nothing
abbrev pub found_step : Option Above → Above
found_step found = option_map_or (λ step. step) found Nothing

-- a pair in front of others, whose parent is added to what a map has
pub steps-more : (step : List ℕ → List ℕ) (pairs : List LentPair) (low : ℕ) (pair : LentPair) (kind : List ℕ)
    (before : List ℕ → Option Above) (with_it : Above) → low < length pairs → pair ≡ get_or pairs low pair
    → ((kinds : List (List ℕ)) → IsAbove kinds (found_step (before pair.name.now)) → IsAbove (step pair.target.now ∷ kinds) with_it)
    → ((name : List ℕ) → IsAbove (map step (parents (plain_pairs (drop (low + 1) pairs)) name)) (found_step (before name)))
    → IsAbove (map step (parents (plain_pairs (drop low pairs)) kind)) (found_step (update bytes_eq before pair.name.now (Some with_it) kind))
unfolding parents
steps-more step pairs low pair kind before with_it within is more rest =
    subst (λ (ps : List LentPair). IsAbove (map step (parents (plain_pairs ps) kind))
    (found_step (update bytes_eq before pair.name.now (Some with_it) kind))) (sym split) (by_test (bytes_eq pair.name.now kind) refl)
  where
    split : drop low pairs ≡ pair ∷ drop (low + 1) pairs
    split =
        drop-cons pairs low pair within
        ∙ ap₂ (λ (p : LentPair) (ps : List LentPair). p ∷ ps) (sym is) (ap (λ (n : ℕ). drop n pairs) (sym (add-one low)))

    others : List (List ℕ)
    others = parents (plain_pairs (drop (low + 1) pairs)) kind

    by_test : (t : Bool) → bytes_eq pair.name.now kind ≡ t
        → IsAbove (map step (cond t (pair.target.now ∷ others) others)) (found_step (cond t (Some with_it) (before kind)))
    by_test true same =
        more (map step others)
        (subst (λ (name : List ℕ). IsAbove (map step others) (found_step (before name)))
        (sym ((bytes_eq-Decides pair.name.now kind).0 same)) (rest kind))
    by_test false same = rest kind

module _ (c : List ℕ) (steps : NameMap Above) (of_cache : AreStepsOf c steps)
    (b : PlainDatabase) (spells : SpellsPairs c b) (kind : List ℕ) where
  -- the steps of a cache are those of each database that it spells
  pub steps_spelled : IsAbove (above (pairs_of b) kind) (step_in steps kind)
  steps_spelled =
      subst (λ (kinds : List (List ℕ)). IsAbove kinds (step_in steps kind)) (above_once c of_cache.database b of_cache.spelled spells kind)
      (of_cache.are kind)
