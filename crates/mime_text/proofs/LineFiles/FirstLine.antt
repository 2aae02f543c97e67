-- The first line of a text, by the place of its newline.
use Rattle.std.proofs.Common.{◌≡◌, ℕ, zero, suc, ◌+◌, ◌<◌, ◌≤◌, true, false, List, [], ◌∷◌, length, take, drop, get_or, eqb, ap, ◌∙◌}
use Rattle.std.proofs.Common.{add-one, arith, ⊎_elim}
use Rattle.std.proofs.lemmas.Bool.{cond-true, cond-false, cases_Bool, false_from_ne_true}
use Rattle.std.specs.List.{onto_first}
use Rattle.memchr.specs.Find.{Passes, is_byte, NoneBefore, Nowhere}
use Rattle.mime_text.specs.Lines.{lines}

-- a newline ends the line before it
lines-newline : (b : ℕ) (rest : List ℕ) → eqb b 10 ≡ true → lines (b ∷ rest) ≡ [] ∷ lines rest
lines-newline b rest e = cond-true _ _ _ e

-- any other byte goes onto the first line
lines-other : (b : ℕ) (rest : List ℕ) → eqb b 10 ≡ false → lines (b ∷ rest) ≡ onto_first b (lines rest)
lines-other b rest e = cond-false _ _ _ e

-- the first line ends at the first newline
lines-at : (text : List ℕ) (k : ℕ) → k < length text → eqb (get_or text k 0) 10 ≡ true
    → ((j : ℕ) → j < k → eqb (get_or text j 0) 10 ≡ false) → lines text ≡ take k text ∷ lines (drop (suc k) text)
lines-at [] k lt here before = absurd (omega arith)
lines-at (b ∷ rest) zero lt here before = lines-newline b rest here
lines-at (b ∷ rest) (suc k) lt here before =
    lines-other b rest (before 0 (omega arith))
    ∙ ap (onto_first b) (lines-at rest k (omega arith) here (λ j h. before (suc j) (omega arith)))

-- a text without a newline is one line
lines-none : (b : ℕ) (rest : List ℕ) → ((j : ℕ) → j < length (b ∷ rest) → eqb (get_or (b ∷ rest) j 0) 10 ≡ false)
    → lines (b ∷ rest) ≡ (b ∷ rest) ∷ []
lines-none b [] none = lines-other b [] (none 0 (omega arith))
lines-none b (c ∷ rest) none =
    lines-other b (c ∷ rest) (none 0 (omega arith))
    ∙ ap (onto_first b) (lines-none c rest (λ j h. none (suc j) (omega arith)))

-- the same, by what a search for the newline gives
pub lines-found : (text : List ℕ) (k : ℕ) → NoneBefore (Passes (is_byte 10) text) 0 (length text) k × Passes (is_byte 10) text k
    → lines text ≡ take k text ∷ lines (drop (k + 1) text)
lines-found text k found =
    let first = found.0 in
    rw add-one (lines-at text k first.high found.1
    (λ j h. false_from_ne_true _ (λ yes_is. first.before j (omega arith) h yes_is)))

-- the same, by a search that gives nothing
pub lines-missing : (text : List ℕ) → 0 < length text → Nowhere (Passes (is_byte 10) text) 0 (length text) → lines text ≡ text ∷ []
lines-missing [] some none = absurd (omega arith)
lines-missing (b ∷ rest) some none =
    lines-none b rest (λ j h. false_from_ne_true _ (λ yes_is. none j (omega arith) h yes_is))

-- a text has no more lines than bytes
pub lines_within : (text : List ℕ) → length (lines text) ≤ length text
lines_within [] = omega arith
lines_within (b ∷ rest) = ⊎_elim
    (λ yes_is. rw (lines-newline b rest yes_is) (omega (arith, lines_within rest)))
    (λ no_is. rw (lines-other b rest no_is) (omega (arith, lines_within rest, length-onto_first b (lines rest))))
    (cases_Bool (eqb b 10))
  where
    length-onto_first : (x : ℕ) (pieces : List (List ℕ)) → length (onto_first x pieces) ≤ suc (length pieces)
    length-onto_first x [] = omega arith
    length-onto_first x (piece ∷ pieces) = omega arith
