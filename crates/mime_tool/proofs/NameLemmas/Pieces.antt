-- Pieces of names, up to the first zero byte.
use Rattle.std.proofs.Common.{◌≡◌, ◌∙◌, ◌==◌, ◌+◌, ◌<◌, ℕ, zero, suc, Bool, true, false, List, [], ◌∷◌, ◌++◌, Option, ap, append-nil, append_assoc, arith}
use Rattle.std.proofs.Common.{drop, get_or, length, refl, subst, sym, take}
use Rattle.std.proofs.lemmas.Bool.{eqb-true, false_from_ne_true}
use Rattle.std.proofs.lemmas.Bool.Decides.{nat_tests}
use Rattle.std.proofs.lemmas.List.{drop-drop, length-append}
use Rattle.std.proofs.Math.Seq.{drop-append_seam}
use Rattle.std.specs.Int.{from_bool}
use Rattle.memchr.specs.Find.{NoneBefore, Nowhere, Passes, is_byte}
use Rattle.mime_lookup.specs.Content.{Health}
use Rattle.mime_tool.specs.Files.{Stored}
use Rattle.mime_tool.specs.Names.{CutsPiece, Gives, IsAtEnd, TakesBytes, TakesPiece, ending, has_no_zero}
use Rattle.mime_tool.proofs.NameLemmas.FirstNames.{no_zero-append}
use Rattle.mime_tool.proofs.NameLemmas.Takings.{at_end_before, gives_ended, gives_last, left_of, taken_front, takes-append}

-- the bytes before a first zero byte, and those after it
cut_at : (bs : List ℕ) (k : ℕ) → k < length bs → (get_or bs k 0 == 0) ≡ true → ((j : ℕ) → j < k → (get_or bs j 0 == 0) ≡ false)
    → (has_no_zero (take k bs) ≡ true) × ((rest : List ℕ) × (bs ≡ take k bs ++ 0 ∷ rest))
cut_at [] k lt here before = absurd (omega arith)
cut_at (b ∷ bs) zero lt here before = (refl, (bs, ap (λ (x : ℕ). x ∷ bs) (eqb-true b 0 here)))
cut_at (b ∷ bs) (suc k) lt here before =
    let later = cut_at bs k (omega arith) here (λ j h. before (suc j) (omega arith)) in
    (rw (before 0 (omega arith)) later.0, (later.1.0, ap (λ (xs : List ℕ). b ∷ xs) later.1.1))

-- bytes of which none is zero
none_at : (bs : List ℕ) → ((j : ℕ) → j < length bs → (get_or bs j 0 == 0) ≡ false) → has_no_zero bs ≡ true
none_at [] none = refl
none_at (b ∷ bs) none = rw (none 0 (omega arith)) (none_at bs (λ j h. none (suc j) (omega arith)))

-- a piece ends where a search finds a zero byte
pub piece_found : (bs : List ℕ) (k : ℕ) → NoneBefore (Passes (is_byte 0) bs) 0 (length bs) k × Passes (is_byte 0) bs k
    → CutsPiece bs (take k bs) true
piece_found bs k found =
    let first = found.0 in
    let cut = cut_at bs k first.high found.1 (λ j h. false_from_ne_true _ (λ yes_is. first.before j (omega arith) h yes_is)) in
    (cut.0, (cut.1.0, cut.1.1, λ never. cc))

-- and all is a piece where it finds none
pub piece_missing : (bs : List ℕ) → Nowhere (Passes (is_byte 0) bs) 0 (length bs) → CutsPiece bs bs false
piece_missing bs none =
    (none_at bs (λ j h. false_from_ne_true _ (λ yes_is. none j (omega arith) h yes_is)), ([], sym (append-nil bs), λ _. refl))

-- how many bytes a piece and its ending have
length-ending : (piece : List ℕ) (ended : Bool) → length (piece ++ ending ended) ≡ length piece + from_bool ended
length-ending piece true = length-append piece (0 ∷ [])
length-ending piece false = length-append piece []

-- a piece of a block is taken, with what ends it
pub piece_taken : (block : List ℕ) (given : ℕ) (piece : List ℕ) (ended : Bool) (count : ℕ) (rest : Option (List ℕ)) (health : Health)
    → count ≡ length piece + from_bool ended → CutsPiece (drop given block) piece ended
    → TakesBytes (left_of (drop given block) rest health) (piece ++ ending ended) (left_of (drop (given + count) block) rest health)
piece_taken block given piece ended count rest health is cuts =
    let front = piece ++ ending ended in
    let split : drop given block ≡ front ++ cuts.1.0 = cuts.1.1 ∙ sym (append_assoc piece (ending ended) cuts.1.0) in
    let size : count ≡ length front = is ∙ sym (length-ending piece ended) in
    let left : drop (given + count) block ≡ cuts.1.0 =
    sym (drop-drop count given block) ∙ (ap (λ (n : ℕ). drop n (drop given block)) size
    ∙ (ap (drop (length front)) split ∙ drop-append_seam front cuts.1.0)) in
    rw (split, left) (taken_front front cuts.1.0 rest health)

-- nothing of the block is left after a piece that isn't ended
pub piece_drained : (block : List ℕ) (given : ℕ) (piece : List ℕ) (count : ℕ) → count ≡ length piece → CutsPiece (drop given block) piece false
    → drop (given + count) block ≡ []
piece_drained block given piece count is cuts =
    let all : drop given block ≡ piece ++ [] = cuts.1.1 ∙ ap (λ (rest : List ℕ). piece ++ rest) (cuts.1.2 refl) in
    sym (drop-drop count given block) ∙ (ap (λ (n : ℕ). drop n (drop given block)) is ∙ (ap (drop (length piece)) all ∙ drop-append_seam piece []))

-- ---- a name

-- it grows by a piece that isn't ended
pub name_grown : (before mid after : Stored) (name new : List ℕ) → has_no_zero name ≡ true → TakesBytes before name mid → TakesPiece mid after name new false
    → (has_no_zero new ≡ true) × TakesBytes before new after
name_grown before mid after name new free taken p =
    let taken_piece = subst (λ (bs : List ℕ). TakesBytes mid bs after) (append-nil p.0) p.3 in
    rw (p.2) (no_zero-append name p.0 free p.1, takes-append before mid after name p.0 taken taken_piece)

-- or by one that is
pub name_ended : (before mid after : Stored) (name new : List ℕ) → has_no_zero name ≡ true → TakesBytes before name mid → TakesPiece mid after name new true
    → Gives before new after
name_ended before mid after name new free taken p =
    let all = subst (λ (bs : List ℕ). TakesBytes before bs after) (sym (append_assoc name p.0 (0 ∷ [])))
    (takes-append before mid after name (p.0 ++ 0 ∷ []) taken p.3) in
    rw (p.2) (gives_ended before after (name ++ p.0) (no_zero-append name p.0 free p.1) all)

-- at the end of the list there is no last name where it is empty
pub last_none : (a m : Stored) (name : List ℕ) (n : ℕ) → n ≡ length name → (n == 0) ≡ true → TakesBytes a name m → IsAtEnd m → IsAtEnd a
last_none a m [] n size is p ended = at_end_before a m p ended
last_none a m (x ∷ name) n size is p ended = absurd (grind (arith, nat_tests))

-- and else it is given
pub last_given : (a m c : Stored) (name : List ℕ) (n : ℕ) → n ≡ length name → (n == 0) ≡ false → has_no_zero name ≡ true → TakesBytes a name m → IsAtEnd m → TakesBytes m [] c
    → Gives a name c
last_given a m c [] n size is free p ended q = absurd (grind (arith, nat_tests))
last_given a m c (x ∷ name) n size is free p ended q = gives_last a m c x name free p ended q
