-- Lines one after another: what is spelled so is read.
use Rattle.std.proofs.Common.{◌≡◌, ℕ, zero, suc, ◌+◌, ◌≤◌, true, eqb, List, [], ◌∷◌, ◌++◌, length, length-append, Ok, refl, sym, ap, subst}
use Rattle.std.proofs.Common.{◌∙◌, append_assoc, arith, inl, inr}
use Rattle.std.proofs.lemmas.Bool.{or_right}
use Rattle.mime_text.specs.Magic.Entries.{PlainEntry}
use Rattle.mime_text.specs.Magic.Reading.{is_digit, entry_at, starts_line, lines_at}
use Rattle.mime_text.specs.Magic.Text.{IsIndent, IsEntry, AreLines}
use Rattle.mime_text.proofs.MagicLemmas.Steps.{bind_on}
use Rattle.mime_text.proofs.MagicLemmas.LinesLoop.{lines_on, lines_off, lines_none}
use Rattle.mime_text.proofs.MagicLemmas.SectionsFound.{EndsLines}
use Rattle.mime_text.proofs.MagicLemmas.EntryOnly.{entry_only}

-- the first byte starts a line
abbrev Starts : List ℕ → Type 0
Starts text = (b : ℕ) × (more : List ℕ) × (text ≡ b ∷ more) × (starts_line b ≡ true)

-- an indent does, or `>`
indent_starts : (indent : List ℕ) (n : ℕ) (more : List ℕ) → IsIndent indent n → Starts (indent ++ 62 ∷ more)
indent_starts [] n more is = (62, more, refl, refl)
indent_starts (d ∷ indent) n more is = (d, indent ++ 62 ∷ more, refl, or_right (eqb d 62) (is_digit d) is.digits.0)

-- so each entry does
entry_starts : (limit : ℕ) (text : List ℕ) (line : PlainEntry) → IsEntry limit text line → Starts text
entry_starts limit text line (inl (inl is, same)) = subst Starts (sym is) (62, _, refl, refl)
entry_starts limit text line (inl (inr (inl is), same)) = subst Starts (sym is) (62, _, refl, refl)
entry_starts limit text line (inl (inr (inr is), same)) = subst Starts (sym is) (62, _, refl, refl)
entry_starts limit text line (inr is) = subst Starts (sym is.1.whole) (indent_starts is.1.indent line.indent is.1.rest is.1.indent_is)

-- lines that are spelled so are read
pub lines_only : (room limit : ℕ) (text : List ℕ) (lines : List PlainEntry) (rest : List ℕ) → AreLines limit text lines → EndsLines rest
    → length (text ++ rest) ≤ room → lines_at room limit (text ++ rest) ≡ Ok (lines, rest)
lines_only room limit text [] [] are ends enough = ap (λ (t : List ℕ). lines_at room limit (t ++ [])) are ∙ lines_none room limit
lines_only room limit text [] (b ∷ rest) are ends enough = ap (λ (t : List ℕ). lines_at room limit (t ++ b ∷ rest)) are
    ∙ lines_off room limit b rest ends
lines_only zero limit text (line ∷ lines) rest are ends enough =
    let s = entry_starts limit are.0 line are.3 in
    absurd (omega (arith, enough, length-append text rest, ap length are.2, length-append are.0 are.1, ap length s.2))
lines_only (suc room) limit text (line ∷ lines) rest are ends enough =
    let s = entry_starts limit are.0 line are.3 in
    let tail : List ℕ = are.1 ++ rest in
    let whole : text ++ rest ≡ are.0 ++ tail = ap (λ (t : List ℕ). t ++ rest) are.2 ∙ append_assoc are.0 are.1 rest in
    let first : are.0 ++ tail ≡ s.0 ∷ (s.1 ++ tail) = ap (λ (t : List ℕ). t ++ tail) s.2 in
    let one : entry_at limit (s.0 ∷ (s.1 ++ tail)) ≡ Ok (line, tail) = ap (entry_at limit) (sym first)
    ∙ entry_only limit are.0 line tail are.3 in
    let fewer : length tail ≤ room = omega (arith, enough, ap length whole, ap length first, length-append s.1 tail) in
    ap (lines_at (suc room) limit) (whole ∙ first) ∙ lines_on room limit s.0 (s.1 ++ tail) s.3
    ∙ bind_on (entry_at limit (s.0 ∷ (s.1 ++ tail))) (line, tail) _ (line ∷ lines, rest) one
    (bind_on (lines_at room (line.indent + 1) tail) (lines, rest) _ (line ∷ lines, rest)
    (lines_only room (line.indent + 1) are.1 lines rest are.4 ends fewer) refl)
