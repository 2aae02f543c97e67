-- Sorted endings rise.
use Rattle.std.proofs.Common.{◌≡◌, ℕ, ◌<◌, true, false, List, [], ◌∷◌, inl, inr, ⊎_elim, length, get_or, map, refl, subst, arith}
use Rattle.std.specs.List.Sorted.{IsSortedBy}
use Rattle.std.proofs.lemmas.Bool.{cases_order, eq-eqb, lt-ltb, le-ltb}
use Rattle.mime_base.specs.Format.Sorted.{text_lt}
use Rattle.mime_base.proofs.FormatLemmas.TextOrder.{sorted_tail}
use Rattle.mime_store.specs.SuffixTree.{PathLe, Rises, ending_entry, ending_path}
use Rattle.mime_store.proofs.RulesLemmas.Texts.{NoZero-from_test}
use Rattle.mime_store.specs.declared.ending.Ending.{Ending}

-- a path that is not less than another is not before it
pub path_le : (a b : List ℕ) → text_lt b a ≡ false → PathLe a b
path_le [] b h = tt
path_le (x ∷ xs) [] h = cc
path_le (x ∷ xs) (y ∷ ys) h =
    ⊎_elim (λ (e : x ≡ y). inr (
      e,
      path_le xs ys (subst (λ (z : ℕ). text_lt (z ∷ ys) (x ∷ xs) ≡ false → text_lt ys xs ≡ false) e
          (λ k. rw (le-ltb x x (omega arith), eq-eqb x x refl) at k) h),
    ))
    (λ o. ⊎_elim (λ (lt : x < y). inl lt)
    (λ (lt : y < x). absurd (let bad : true ≡ false = rw (lt-ltb y x lt) at h in cc)) o)
    (cases_order x y)

-- sorted endings rise from one before them
rises_from : (before : List ℕ) (xs : List Ending) → ((d : Ending) → 0 < length xs → PathLe before (ending_path (get_or xs 0 d)))
    → IsSortedBy (λ a b. text_lt (ending_path a) (ending_path b)) xs → Rises before (map (ending_entry 0) xs)
unfolding ending_path
rises_from before [] h s = tt
rises_from before (x ∷ xs) h s =
    let next : (d : Ending) → 0 < length xs → PathLe (ending_path x) (ending_path (get_or xs 0 d)) =
    λ d lt. path_le (ending_path x) (ending_path (get_or xs 0 d)) (s 0 d (omega arith) (omega (arith, lt))) in (
      h x (omega arith),
      NoZero-from_test (ending_path x) x.no_zero,
      rises_from (ending_path x) xs next (sorted_tail (λ a b. text_lt (ending_path a) (ending_path b)) x xs s),
    )

-- sorted endings rise
pub sorted_rises : (xs : List Ending) → IsSortedBy (λ a b. text_lt (ending_path a) (ending_path b)) xs → Rises [] (map (ending_entry 0) xs)
sorted_rises xs s = rises_from [] xs (λ d lt. tt) s
