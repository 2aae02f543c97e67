-- Pairs of a list that were read one after another are in its order.
use Rattle.std.proofs.Common.{◌≡◌, ℕ, ◌-◌, ◌<◌, Bool, false, List, [], ◌∷◌, ◌++◌, length, get_or, ap, refl, sym, ◌∙◌, arith}
use Rattle.std.specs.List.Sorted.{IsSortedBy}
use Rattle.std.proofs.lemmas.List.{get_or-map, length-map}
use Rattle.std.proofs.lemmas.List.Kept.{IsSortedBy-push}
use Rattle.std.proofs.lemmas.List.Sorted.{IsPermutation-refl, length_permutation}
use Rattle.mime_base.specs.Cache.Bytes.{Stands}
use Rattle.mime_base.specs.Format.Pairs.{PairsAt}
use Rattle.mime_base.specs.Format.Sorted.{IsSortedByText, text_lt}
use Rattle.mime_load.specs.Lent.{plain_pair, plain_pairs}
use Rattle.mime_load.specs.declared.pair.LentPair.{LentPair}
use Rattle.mime_load.proofs.RuleLists.{mapped_pushed}
use Rattle.mime_load.proofs.SameLemmas.{same_numbers}

-- the first text of a pair comes before that of another
abbrev pub named_before : List ℕ × List ℕ → List ℕ × List ℕ → Bool
named_before left right = text_lt left.0 right.0

-- one more pair that is not before the last
pub pairs_pushed : (before after : List LentPair) (pair : LentPair) → after ≡ before ++ pair ∷ [] → IsSortedBy named_before (plain_pairs before)
    → ((d : LentPair) → 0 < length before → text_lt pair.name.now (get_or before (length before - 1) d).name.now ≡ false)
    → IsSortedBy named_before (plain_pairs after)
pairs_pushed before after pair is sorted last =
    rw (mapped_pushed plain_pair before after pair is)
    (IsSortedBy-push named_before (plain_pairs before) (plain_pair pair) sorted (λ d some. not_less d some))
  where
    not_less : (d : List ℕ × List ℕ) → 0 < length (plain_pairs before)
        → named_before (plain_pair pair) (get_or (plain_pairs before) (length (plain_pairs before) - 1) d) ≡ false
    not_less d some =
        let size = length-map before plain_pair in
        let place : length (plain_pairs before) - 1 ≡ length before - 1 = omega (arith, size) in
        let here : get_or (plain_pairs before) (length (plain_pairs before) - 1) d ≡ plain_pair (get_or before (length before - 1) pair) =
        ap (λ (k : ℕ). get_or (plain_pairs before) k d) place
        ∙ get_or-map plain_pair before (length before - 1) pair d (omega (arith, size)) in
        rw here (last pair (omega (arith, size)))

-- pairs in that order are themselves in the order of a cache
pub pairs_by_text : (pairs : List (List ℕ × List ℕ)) → IsSortedBy named_before pairs → IsSortedByText (λ pair. pair.0) pairs pairs
pairs_by_text pairs sorted = record { permuted = IsPermutation-refl pairs; in_order = sorted; ties = λ text. refl }

-- pairs that stand at one offset are as many
pub same_pairs_count : (c : List ℕ) (at : ℕ) (pairs others : List (List ℕ × List ℕ)) → PairsAt (Stands c) at pairs
    → PairsAt (Stands c) at others
    → length pairs ≡ length others
same_pairs_count c at pairs others one two =
    sym (length_permutation pairs one.entries one.sorted.permuted)
    ∙ ap (λ (ns : List ℕ). get_or ns 0 0)
    (same_numbers c at (length one.entries ∷ []) (length two.entries ∷ []) refl one.stand.count two.stand.count)
    ∙ length_permutation others two.entries two.sorted.permuted
