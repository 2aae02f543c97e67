-- The number of lines below one is set.
use Rattle.std.proofs.Common.{◌≡◌, ℕ, ◌+◌, ◌-◌, List, [], ◌∷◌, ◌++◌, length, get_or, map, set, drop}
use Rattle.std.proofs.Common.{ap, ap₂, ◌∙◌, sym, subst, arith, length-append}
use Rattle.std.proofs.lemmas.List.{length-map}
use Rattle.mime_base.specs.Magic.{PlainLine}
use Rattle.mime_load.specs.Adding.{SetsBelow, plain_entry}
use Rattle.mime_load.specs.Lent.{plain_line}
use Rattle.mime_load.specs.declared.line.LentLine.{LentLine}

-- the line whose entry is at a place has that entry
entry_at : (old : List LentLine) (m : LentLine) (front : List (PlainLine × ℕ)) (own : PlainLine) (below : ℕ) (back : List (PlainLine × ℕ))
    → map plain_entry old ≡ front ++ (own, below) ∷ back → m ≡ get_or old (length front) m → plain_line m ≡ own
entry_at [] m [] own below back are is = absurd (omega (arith, ap (λ (es : List (PlainLine × ℕ)). length es) are))
entry_at [] m (e ∷ front) own below back are is = absurd (omega (arith, ap (λ (es : List (PlainLine × ℕ)). length es) are))
entry_at (x ∷ old) m [] own below back are is =
    let same : m ≡ x = is in
    ap plain_line same ∙ ap (λ (es : List (PlainLine × ℕ)). (get_or es 0 (own, 0)).0) are
entry_at (x ∷ old) m (e ∷ front) own below back are is =
    entry_at old m front own below back (ap (λ (es : List (PlainLine × ℕ)). drop 1 es) are) is

-- another line in its place has its own entry
entry_set : (old : List LentLine) (m : LentLine) (front : List (PlainLine × ℕ)) (own : PlainLine) (below : ℕ) (back : List (PlainLine × ℕ))
    → map plain_entry old ≡ front ++ (own, below) ∷ back
    → map plain_entry (set old (length front) m) ≡ front ++ plain_entry m ∷ back
entry_set [] m [] own below back are = absurd (omega (arith, ap (λ (es : List (PlainLine × ℕ)). length es) are))
entry_set [] m (e ∷ front) own below back are = absurd (omega (arith, ap (λ (es : List (PlainLine × ℕ)). length es) are))
entry_set (x ∷ old) m [] own below back are =
    ap (λ (es : List (PlainLine × ℕ)). plain_entry m ∷ drop 1 es) are
entry_set (x ∷ old) m (e ∷ front) own below back are =
    ap₂ (λ (d : PlainLine × ℕ) (es : List (PlainLine × ℕ)). d ∷ es) (ap (λ (es : List (PlainLine × ℕ)). get_or es 0 e) are)
    (entry_set old m front own below back (ap (λ (es : List (PlainLine × ℕ)). drop 1 es) are))

-- the number of a line is set to how many lines are after it
pub sets_below : (place : ℕ) (old new : List LentLine) (m changed : LentLine) → m ≡ get_or old place m → new ≡ set old place changed
    → plain_line changed ≡ plain_line m → changed.below ≡ length old - place - 1 → SetsBelow place old new
sets_below place old new m changed is new_is same number = record {
  are = λ front own below back size are.
      let here : m ≡ get_or old (length front) m = subst (λ (n : ℕ). m ≡ get_or old n m) (sym size) is in
      let all = sym (length-map old plain_entry) ∙ ap (λ (es : List (PlainLine × ℕ)). length es) are in
      let many : length old ≡ length front + (1 + length back) = omega (arith, all, length-append front ((own, below) ∷ back)) in
      let entry : plain_entry changed ≡ (own, length back) =
      ap₂ (λ (l : PlainLine) (n : ℕ). (l, n)) (same ∙ entry_at old m front own below back are here)
      (number ∙ omega (arith, many, size)) in
      ap (map plain_entry) (new_is ∙ ap (λ (n : ℕ). set old n changed) (sym size)) ∙ entry_set old changed front own below back are
      ∙ ap (λ (e : PlainLine × ℕ). front ++ e ∷ back) entry;
}
