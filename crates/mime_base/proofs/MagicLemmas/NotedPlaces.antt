-- Places of bytes that are noted from the last to the first.
use Rattle.std.proofs.Common.{◌≡◌, ℕ, ◌+◌, ◌<◌, ◌≤◌, ◌==◌, Bool, true, false, List, length, get_or, refl, ap, ◌∙◌, arith}
use Rattle.std.proofs.Math.ListN.{set}
use Rattle.std.proofs.lemmas.Bool.{eqb-false, eqb-true}
use Rattle.std.proofs.lemmas.List.{get_or-set_other, get_or-set_same}
use Rattle.mime_base.specs.Magic.Places.{NotesFrom}

-- one place more, before those that are noted
pub notes_more : (place : ℕ) (noted bytes : List ℕ) → get_or bytes place 0 < length noted → NotesFrom (place + 1) noted bytes
    → NotesFrom place (set noted (get_or bytes place 0) place) bytes
notes_more place noted bytes known later = record {
  no_later = λ j from front inside. by_byte j from front inside (get_or bytes j 0 == get_or bytes place 0) refl;
}
  where
    by_byte : (j : ℕ) → place ≤ j → j < 288 → j < length bytes → (same : Bool)
        → (get_or bytes j 0 == get_or bytes place 0) ≡ same
        → get_or (set noted (get_or bytes place 0) place) (get_or bytes j 0) 0 ≤ j
    by_byte j from front inside true e =
        let is = eqb-true (get_or bytes j 0) (get_or bytes place 0) e in
        let now = ap (λ (b : ℕ). get_or (set noted (get_or bytes place 0) place) b 0) is
        ∙ get_or-set_same noted (get_or bytes place 0) place 0 known in
        omega (arith, now)
    by_byte j from front inside false e =
        let other = eqb-false (get_or bytes j 0) (get_or bytes place 0) e in
        let past : j ≡ place → ⊥ = λ same. other (ap (λ (k : ℕ). get_or bytes k 0) same) in
        let kept = get_or-set_other noted (get_or bytes place 0) (get_or bytes j 0) place 0 other in
        omega (arith, kept, past, later.no_later j (omega (arith, past)) front inside)
