-- A line is cut at its first colon, by what a search for it gives.
use Rattle.std.proofs.Common.{◌≡◌, ℕ, suc, ◌+◌, ◌<◌, true, false, List, [], ◌∷◌, length, take, drop, get_or, ap, ◌∙◌, refl, arith, Some}
use Rattle.std.proofs.Common.{None}
use Rattle.std.proofs.lemmas.Bool.{cond-true, cond-false, false_from_ne_true}
use Rattle.std.proofs.lemmas.List.Folds.{list_any_at}
use Rattle.std.proofs.lemmas.List.Sums.{position_or_len_is}
use Rattle.std.specs.List.{list_any, position_or_len}
use Rattle.memchr.specs.Find.{Passes, is_byte, NoneBefore, Nowhere}
use Rattle.mime_text.specs.Lines.Icons.{at_colon, is_colon}

-- the first colon is where the search found it
pub at_colon-found : (line : List ℕ) (k : ℕ) → NoneBefore (Passes (is_byte 58) line) 0 (length line) k × Passes (is_byte 58) line k
    → at_colon line ≡ Some (take k line, drop (k + 1) line)
at_colon-found line k found =
    let first = found.0 in
    let here : is_colon (get_or line k 0) ≡ true = found.1 in
    let place : position_or_len is_colon line ≡ k =
    position_or_len_is is_colon line k 0 (omega (arith, first.high))
    (λ j h. false_from_ne_true _ (λ yes_is. first.before j (omega arith) h yes_is)) (λ _. here) in
    cond-true _ _ _ (list_any_at is_colon line k 0 first.high here) ∙ ap (λ i. Some (take i line, drop (i + 1) line)) place

-- there is none where the search gave nothing
pub at_colon-missing : (line : List ℕ) → Nowhere (Passes (is_byte 58) line) 0 (length line) → at_colon line ≡ None
at_colon-missing line none = cond-false _ _ _ (no_colon line (λ j h. false_from_ne_true _ (λ yes_is. none j (omega arith) h yes_is)))
  where
    no_colon : (bytes : List ℕ) → ((j : ℕ) → j < length bytes → is_colon (get_or bytes j 0) ≡ false) → list_any is_colon bytes ≡ false
    no_colon [] others = refl
    no_colon (b ∷ bytes) others = rw (others 0 (omega arith)) (no_colon bytes (λ j h. others (suc j) (omega arith)))
