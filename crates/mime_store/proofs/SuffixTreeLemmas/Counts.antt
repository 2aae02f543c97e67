-- Endings are as many in any order.
use Rattle.std.proofs.Common.{◌≡◌, ℕ, Bool, ◌||◌, List, [], ◌∷◌, refl, sym, ap, ◌∙◌, bytes_eq, IsPermutation}
use Rattle.std.specs.List.{flat_map, list_any}
use Rattle.std.specs.Set.{is_member}
use Rattle.std.proofs.lemmas.List.Folds.{list_any-append}
use Rattle.std.proofs.lemmas.List.Sorted.{list_any-IsPermutation}
use Rattle.mime_base.specs.Format.SuffixTree.{front_count, fronts}
use Rattle.mime_base.proofs.FormatLemmas.DistinctTexts.{distinct_same}

-- what is a front of some path is a front of one of them
member_any : (q : List ℕ) (paths : List (List ℕ))
    → is_member bytes_eq (flat_map fronts paths) q ≡ list_any (λ p. is_member bytes_eq (fronts p) q) paths
member_any q [] = refl
member_any q (p ∷ paths) =
    list_any-append (bytes_eq q) (fronts p) (flat_map fronts paths)
    ∙ ap (λ (t : Bool). is_member bytes_eq (fronts p) q || t) (member_any q paths)

-- in another order there are as many fronts
pub front_count-permuted : (xs ys : List (List ℕ)) → IsPermutation xs ys → front_count ys ≡ front_count xs
front_count-permuted xs ys p =
    distinct_same (flat_map fronts ys) (flat_map fronts xs)
    (λ f. member_any f ys ∙ sym (list_any-IsPermutation (λ q. is_member bytes_eq (fronts q) f) xs ys p) ∙ sym (member_any f xs))
