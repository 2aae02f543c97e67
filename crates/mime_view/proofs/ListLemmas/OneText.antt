-- One text stands at a place.
use Rattle.std.proofs.Common.{◌≡◌, ℕ, true, false, List, Result, Ok, Ordering, Less, Equal, Greater, nat_cmp, true≢false, refl, sym, ◌∙◌}
use Rattle.std.specs.Prelude.{◌≢◌, bytes_eq}
use Rattle.std.specs.Ordering.{is_eq}
use Rattle.std.specs.Cmp.Lexicographic.{slice_cmp}
use Rattle.std.proofs.lemmas.Map.Text.{is_eq-slice_cmp}
use Rattle.std.proofs.lemmas.Bool.{false_from_ne_true}
use Rattle.std.proofs.lemmas.Slice.Eq.{bytes_eq-Decides}
use Rattle.mime_base.specs.declared.cache.byte_fault.ByteFault.{ByteFault}

-- two texts that are read there are the same
pub one_text : (read : Result (List ℕ) ByteFault) (a b : List ℕ) → read ≡ Ok a → read ≡ Ok b → bytes_eq a b ≡ true
one_text read a b is also = (bytes_eq-Decides a b).1 (let same = sym is ∙ also in cc)

-- another text is not equal
pub other_text : (a b : List ℕ) → a ≢ b → bytes_eq a b ≡ false
other_text a b other = false_from_ne_true _ (λ same. other ((bytes_eq-Decides a b).0 same))

-- the order of a text and itself
pub same_text : (a b : List ℕ) → a ≡ b → slice_cmp nat_cmp a b ≡ Equal
same_text a b e = by_order (slice_cmp nat_cmp a b) (is_eq-slice_cmp a b ∙ (bytes_eq-Decides a b).1 e)
  where
    by_order : (o : Ordering) → is_eq o ≡ true → o ≡ Equal
    by_order Less is = absurd (true≢false (sym is))
    by_order Equal is = refl
    by_order Greater is = absurd (true≢false (sym is))
