-- Where a key stands in a sorted list of texts.
use Rattle.std.proofs.Common.{◌≡◌, ℕ, zero, suc, ◌<◌, ◌≤◌, true, false, List, [], ◌∷◌, length, get_or}
use Rattle.std.proofs.Common.{None, Some, Ordering, Less, Equal, Greater, nat_cmp, true≢false, refl, sym, ap, ◌∙◌, arith, inl, inr}
use Rattle.std.specs.Prelude.{bytes_eq}
use Rattle.std.specs.Ordering.{is_eq}
use Rattle.std.specs.Cmp.Lexicographic.{slice_cmp}
use Rattle.std.proofs.lemmas.Bool.{cases_lt, false_from_ne_true}
use Rattle.std.proofs.lemmas.List.Sorted.{sorted_far}
use Rattle.std.proofs.lemmas.Map.Text.{is_eq-slice_cmp}
use Rattle.mime_base.specs.Format.Sorted.{text_lt}
use Rattle.mime_base.proofs.FormatLemmas.TextOrder.{less_differs, neither_less, same_less, text_order}
use Rattle.mime_view.specs.Lists.{AreSorted, SplitsAt, place_of}

-- no text is the key
place_of-none : (keys : List (List ℕ)) (key : List ℕ) → ((i : ℕ) → i < length keys → bytes_eq (get_or keys i []) key ≡ false)
    → place_of keys key ≡ None
place_of-none [] key others = refl
place_of-none (text ∷ keys) key others =
    rw (others 0 (omega arith), place_of-none keys key (λ i l. others (suc i) (omega arith))) refl

-- the text r is the first that is the key
place_of-at : (keys : List (List ℕ)) (key : List ℕ) (r : ℕ) → r < length keys
    → ((i : ℕ) → i < r → bytes_eq (get_or keys i []) key ≡ false) → bytes_eq (get_or keys r []) key ≡ true
    → place_of keys key ≡ Some r
place_of-at [] key r l others e = absurd (omega arith)
place_of-at (text ∷ keys) key zero l others e = rw e refl
place_of-at (text ∷ keys) key (suc r) l others e =
    rw (others 0 (omega arith), place_of-at keys key r (omega arith) (λ i m. others (suc i) (omega arith)) e) refl

module _ (keys : List (List ℕ)) (key : List ℕ) (place : ℕ) (is : SplitsAt keys key place) where
  -- the text at a place
  abbrev text : ℕ → List ℕ
  text i = get_or keys i []

  -- the texts before the place are others
  before : (i : ℕ) → i < place → bytes_eq (text i) key ≡ false
  before i l = less_differs (text i) key (is.less i l)

  -- the text at the place is the key
  pub place_of-found : place < length keys → bytes_eq (text place) key ≡ true → place_of keys key ≡ Some place
  place_of-found l e = place_of-at keys key place l before e

  -- a text from the place on is another, where the one there is
  after : AreSorted keys → (i : ℕ) → place ≤ i → i < length keys → bytes_eq (text place) key ≡ false → bytes_eq (text i) key ≡ false
  after sorted i g l other =
      let far : text_lt (text i) (text place) ≡ false = sorted_far {X = List ℕ} text_lt text_order keys sorted place i [] g l in
      let no_less : text_lt (text place) key ≡ false = is.not_less place (omega arith) (omega arith) in
      false_from_ne_true _ (λ same.
      let back : text_lt key (text place) ≡ false = sym (same_less (text i) key (text place) same) ∙ far in
      true≢false (sym (neither_less (text place) key no_less back) ∙ other))

  -- no text stands at the place, or another
  pub place_of-missed : AreSorted keys → (place < length keys → bytes_eq (text place) key ≡ false) → place_of keys key ≡ None
  place_of-missed sorted other =
      place_of-none keys key (λ i l. elim (cases_lt i place) [
        | inl m ↦ before i m
        | inr g ↦ after sorted i g l (other (omega arith))
      ])

-- texts of the order Equal are the same
pub equal_texts : (a b : List ℕ) → slice_cmp nat_cmp a b ≡ Equal → bytes_eq a b ≡ true
equal_texts a b e = sym (is_eq-slice_cmp a b) ∙ ap is_eq e

-- texts of another order are not
pub other_texts : (a b : List ℕ) → (slice_cmp nat_cmp a b ≡ Equal → ⊥) → bytes_eq a b ≡ false
other_texts a b other = sym (is_eq-slice_cmp a b) ∙ by_order (slice_cmp nat_cmp a b) other
  where
    by_order : (o : Ordering) → (o ≡ Equal → ⊥) → is_eq o ≡ false
    by_order Less other = refl
    by_order Equal other = absurd (other refl)
    by_order Greater other = refl
