-- What is known of texts: the numbers of a map that are those of a function.
use Rattle.std.proofs.Common.{◌≡◌, ℕ, Bool, true, false, cond, List, [], ◌∷◌, refl, sym, ap, ◌∙◌, Some, Ordering, Less, Equal, Greater}
use Rattle.std.specs.List.{All}
use Rattle.std.specs.Cmp.Lexicographic.{slice_cmp}
use Rattle.std.specs.Ordering.{is_eq, match_ordering, nat_cmp}
use Rattle.std.specs.BTreeMap.{insert_entry}
use Rattle.std.specs.Map.{lookup}
use Rattle.std.specs.Global.{Vec}
use Rattle.std.proofs.lemmas.List.Elements.{All-cons, All-head, All-tail}
use Rattle.std.proofs.lemmas.Map.Text.{is_eq-slice_cmp}
use Rattle.std.proofs.lemmas.Slice.Eq.{bytes_eq-Decides}

-- texts that compare as equal are equal
same-text : (xs ys : List ℕ) → is_eq (slice_cmp nat_cmp xs ys) ≡ true → xs ≡ ys
same-text xs ys is = (bytes_eq-Decides xs ys).0 (sym (is_eq-slice_cmp xs ys) ∙ is)

module _ (f : List ℕ → ℕ) where
  -- the number of an entry is that of its key
  abbrev pub IsKnown : Vec ℕ × ℕ → Type 0
  IsKnown entry = entry.1 ≡ f entry.0.items

  -- what is found is the number of the text
  pub known-found : (text : List ℕ) (n : ℕ) (entries : List (Vec ℕ × ℕ)) → All IsKnown entries →
      lookup (λ key. is_eq (slice_cmp nat_cmp text key.items)) entries ≡ Some n → n ≡ f text
  known-found text n [] known found = absurd cc
  known-found text n (entry ∷ entries) known found =
      by_cases (is_eq (slice_cmp nat_cmp text entry.0.items)) refl found
      (λ later. known-found text n entries (All-tail IsKnown entry entries known) later)
    where
      by_cases : (t : Bool) → is_eq (slice_cmp nat_cmp text entry.0.items) ≡ t →
          cond t (Some entry.1) (lookup (λ key. is_eq (slice_cmp nat_cmp text key.items)) entries) ≡ Some n →
          (lookup (λ key. is_eq (slice_cmp nat_cmp text key.items)) entries ≡ Some n → n ≡ f text) → n ≡ f text
      by_cases true is here later =
          let first : entry.1 ≡ n = cc in
          sym first ∙ All-head IsKnown entry entries known ∙ ap f (sym (same-text text entry.0.items is))
      by_cases false is here later = later here

  -- one entry more
  pub known-more : (key : Vec ℕ) (n : ℕ) → n ≡ f key.items → (entries : List (Vec ℕ × ℕ)) → All IsKnown entries →
      All IsKnown (insert_entry (λ x y. slice_cmp nat_cmp x.items y.items) entries key n)
  known-more key n is [] known = All-cons IsKnown (key, n) [] is known
  known-more key n is (entry ∷ entries) known =
      let rest = All-tail IsKnown entry entries known in
      let first = All-head IsKnown entry entries known in
      by_order (slice_cmp nat_cmp key.items entry.0.items) refl first rest (known-more key n is entries rest)
    where
      by_order : (o : Ordering) → slice_cmp nat_cmp key.items entry.0.items ≡ o → IsKnown entry → All IsKnown entries →
          All IsKnown (insert_entry (λ x y. slice_cmp nat_cmp x.items y.items) entries key n) →
          All IsKnown (match_ordering o ((key, n) ∷ entry ∷ entries) ((entry.0, n) ∷ entries)
          (entry ∷ insert_entry (λ x y. slice_cmp nat_cmp x.items y.items) entries key n))
      by_order Less o first rest more = All-cons IsKnown (key, n) (entry ∷ entries) is (All-cons IsKnown entry entries first rest)
      by_order Equal o first rest more =
          All-cons IsKnown (entry.0, n) entries (is ∙ ap f (same-text key.items entry.0.items (ap is_eq o))) rest
      by_order Greater o first rest more = All-cons IsKnown entry _ first more
