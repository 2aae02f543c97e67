-- The fields of a line, by what a search for the separator gives.
use Rattle.std.proofs.Common.{◌≡◌, ℕ, zero, suc, ◌+◌, ◌<◌, true, false, List, [], ◌∷◌, length, take, drop, get_or, eqb, ap, ◌∙◌, refl}
use Rattle.std.proofs.Common.{add-one, arith}
use Rattle.std.proofs.lemmas.Bool.{false_from_ne_true}
use Rattle.std.proofs.lemmas.List.Splits.{slice_split-cons_yes, slice_split-cons_no}
use Rattle.std.specs.List.{onto_first}
use Rattle.memchr.specs.Find.{Passes, is_byte, NoneBefore, Nowhere}
use Rattle.mime_text.specs.Lines.{line_fields}

-- the first field ends at the first separator
fields-at : (c : ℕ) (line : List ℕ) (k : ℕ) → k < length line → eqb (get_or line k 0) c ≡ true
    → ((j : ℕ) → j < k → eqb (get_or line j 0) c ≡ false) → line_fields c line ≡ take k line ∷ line_fields c (drop (suc k) line)
fields-at c [] k lt here before = absurd (omega arith)
fields-at c (b ∷ rest) zero lt here before = slice_split-cons_yes (λ x. eqb x c) b rest here
fields-at c (b ∷ rest) (suc k) lt here before =
    slice_split-cons_no (λ x. eqb x c) b rest (before 0 (omega arith))
    ∙ ap (onto_first b) (fields-at c rest k (omega arith) here (λ j h. before (suc j) (omega arith)))

-- a line without a separator is one field
fields-none : (c : ℕ) (line : List ℕ) → ((j : ℕ) → j < length line → eqb (get_or line j 0) c ≡ false) → line_fields c line ≡ line ∷ []
fields-none c [] none = refl
fields-none c (b ∷ rest) none =
    slice_split-cons_no (λ x. eqb x c) b rest (none 0 (omega arith))
    ∙ ap (onto_first b) (fields-none c rest (λ j h. none (suc j) (omega arith)))

-- the same, by what a search for the separator gives
pub fields-found : (c : ℕ) (line : List ℕ) (k : ℕ) → NoneBefore (Passes (is_byte c) line) 0 (length line) k × Passes (is_byte c) line k
    → line_fields c line ≡ take k line ∷ line_fields c (drop (k + 1) line)
fields-found c line k found =
    let first = found.0 in
    rw add-one (fields-at c line k first.high found.1
    (λ j h. false_from_ne_true _ (λ yes_is. first.before j (omega arith) h yes_is)))

-- the same, by a search that gives nothing
pub fields-missing : (c : ℕ) (line : List ℕ) → Nowhere (Passes (is_byte c) line) 0 (length line) → line_fields c line ≡ line ∷ []
fields-missing c line none = fields-none c line (λ j h. false_from_ne_true _ (λ yes_is. none j (omega arith) h yes_is))
