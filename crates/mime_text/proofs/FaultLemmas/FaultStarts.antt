-- A line that has a fault by the table begins as lines do.
use Rattle.std.proofs.Common.{◌≡◌, ℕ, ◌<◌, ◌≤◌, true, eqb, List, [], ◌∷◌, ◌++◌, length, refl, sym, subst, arith}
use Rattle.std.proofs.lemmas.Bool.{or_right}
use Rattle.mime_base.specs.Magic.{PlainLine}
use Rattle.mime_text.specs.declared.magic.fault.MagicFaultKind.{MagicFaultKind}
use Rattle.mime_text.specs.declared.magic.fault.MagicFaultKind.TheVariants.{NoHeader, Truncated, BadSection, BadNumber, BadWord, BadIndent}
use Rattle.mime_text.specs.declared.magic.fault.MagicFaultKind.TheVariants.{TooDeep}
use Rattle.mime_text.specs.Magic.Reading.{is_digit, starts_line}
use Rattle.mime_text.specs.Magic.Text.{value_of, AreDigits, IsIndent}
use Rattle.mime_text.specs.Magic.FaultTable.{IsToIndent, IsToStart, IsToValue, IsToMask, IsToWord, IsToEnd, IsEnded, IsIndented}
use Rattle.mime_text.specs.Magic.FaultTable.{IsBeforeNumber, before_start, before_word, before_range, IsCutLine, in_indent, in_number}
use Rattle.mime_text.specs.Magic.FaultTable.{in_length, in_value, in_mask, before_end, before_newline, IsMisnumbered, large_indent}
use Rattle.mime_text.specs.Magic.FaultTable.{bad_number, no_equals, large_sum, IsMisindented, no_mark, too_far}
use Rattle.mime_text.proofs.FaultLemmas.FaultKinds.{LineFault}

-- the first byte is a digit
abbrev pub StartsDigit : List ℕ → Type 0
StartsDigit [] = ⊥
StartsDigit (b ∷ line) = is_digit b ≡ true

-- the first byte starts a line
abbrev pub StartsLine : List ℕ → Type 0
StartsLine [] = ⊥
StartsLine (b ∷ line) = starts_line b ≡ true

-- digits begin with one
pub digits_start : (text : List ℕ) → AreDigits text → 0 < length text → StartsDigit text
digits_start [] are some = absurd (omega (arith, some))
digits_start (b ∷ text) are some = are.0

-- so does what they are at the front of
digit_front : (front tail : List ℕ) → StartsDigit front → StartsDigit (front ++ tail)
digit_front [] tail starts = absurd starts
digit_front (b ∷ front) tail starts = starts

-- digits that have an end begin a number
pub ended_starts : (text line : List ℕ) (next : ℕ) → AreDigits text → 0 < length text → IsEnded text next line → StartsDigit line
ended_starts text line next are some ended =
    subst StartsDigit (sym ended.whole) (digit_front text (next ∷ ended.after) (digits_start text are some))

-- a large number has digits
pub large_some : (text : List ℕ) → 4294967296 ≤ value_of 0 text → 0 < length text
large_some [] large = absurd (omega (arith, large))
large_some (b ∷ text) large = omega arith

-- a digit starts a line
pub digit_line : (line : List ℕ) → StartsDigit line → StartsLine line
digit_line [] starts = absurd starts
digit_line (b ∷ line) starts = or_right (eqb b 62) (is_digit b) starts

-- a front of a line starts as the line
of_front : (line before tail : List ℕ) → line ≡ before ++ tail → StartsLine before → StartsLine line
of_front line before tail is starts = subst StartsLine (sym is) (go before tail starts)
  where
    go : (before tail : List ℕ) → StartsLine before → StartsLine (before ++ tail)
    go [] tail starts = absurd starts
    go (b ∷ before) tail starts = starts

-- an indent and `>` do
pub indent_starts : (indent tail : List ℕ) (n : ℕ) → IsIndent indent n → StartsLine (indent ++ 62 ∷ tail)
indent_starts [] tail n is = refl
indent_starts (d ∷ indent) tail n is = or_right (eqb d 62) (is_digit d) is.digits.0

-- so each front does
to_indent : (limit : ℕ) (text : List ℕ) → IsToIndent limit text → StartsLine text
to_indent limit text i = subst StartsLine (sym i.whole) (indent_starts i.indent [] i.depth i.indent_is)

-- a line up to its start begins a line
to_start : (limit : ℕ) (text : List ℕ) → IsToStart limit text → StartsLine text
to_start limit text s = of_front text s.before (s.start ++ 61 ∷ []) s.whole (to_indent limit s.before s.before_is)

-- so does a line up to its value
to_value : (limit size : ℕ) (text : List ℕ) → IsToValue limit size text → StartsLine text
to_value limit size text v = of_front text v.before (v.high ∷ v.low ∷ v.value) v.whole (to_start limit v.before v.before_is)

-- so does a line up to its mask
to_mask : (limit size : ℕ) (text : List ℕ) → IsToMask limit size text → StartsLine text
to_mask limit size text m = of_front text m.before m.mask m.whole (to_value limit size m.before m.before_is)

-- so does a line up to its word
to_word : (limit size : ℕ) (text : List ℕ) → IsToWord limit size text → StartsLine text
to_word limit size text w = of_front text w.before w.word w.whole (to_mask limit size w.before w.before_is)

-- so does a line up to its end
to_end : (limit : ℕ) (own : PlainLine) (next : ℕ) (text : List ℕ) → IsToEnd limit own next text → StartsLine text
to_end limit own next text e = of_front text e.before e.body e.whole (to_indent limit e.before e.before_is)

-- so does what comes before a number
to_number : (limit : ℕ) (text : List ℕ) → IsBeforeNumber limit text → StartsLine text
to_number limit text (before_start i) = to_indent limit text i
to_number limit text (before_word size before is m) = of_front text before (126 ∷ []) is (to_mask limit size before m)
to_number limit text (before_range size before is w) = of_front text before (43 ∷ []) is (to_word limit size before w)

-- a line that is cut
cut_starts : (limit : ℕ) (line : List ℕ) → IsCutLine limit line → StartsLine line
cut_starts limit line (in_indent some are) = digit_line line (digits_start line are some)
cut_starts limit line (in_number before digits is place are) = of_front line before digits is (to_number limit before place)
cut_starts limit line (in_length before cut is s short) = of_front line before cut is (to_start limit before s)
cut_starts limit line (in_value before high low cut is s less) = of_front line before (high ∷ low ∷ cut) is (to_start limit before s)
cut_starts limit line (in_mask size before cut is v less) = of_front line before (38 ∷ cut) is (to_value limit size before v)
cut_starts limit line (before_end size m) = to_mask limit size line m
cut_starts limit line (before_newline before after own next is e other none) =
    of_front line before (next ∷ after) is (to_end limit own next before e)

-- a number that is wrong
misnumbered_starts : (limit : ℕ) (line : List ℕ) (at : ℕ) → IsMisnumbered limit line at → StartsLine line
misnumbered_starts limit line at (large_indent indent next ended are large e) =
    digit_line line (ended_starts indent line next are (large_some indent large) ended)
misnumbered_starts limit line at (bad_number before rest is place bad e) = of_front line before rest is (to_number limit before place)
misnumbered_starts limit line at (no_equals before rest start n next is i num ended other e) =
    of_front line before rest is (to_indent limit before i)
misnumbered_starts limit line at (large_sum before after own is end large e) =
    of_front line before (10 ∷ after) is (to_end limit own 10 before end)

-- an indent that is wrong
indented_starts : (depth : ℕ) (line : List ℕ) → IsIndented depth line → StartsLine line
indented_starts depth line i = subst StartsLine (sym i.whole) (indent_starts i.indent i.after depth i.indent_is)

-- so does a line with a wrong indent
misindented_starts : (limit : ℕ) (line : List ℕ) (at : ℕ) → IsMisindented limit line at → StartsLine line
misindented_starts limit line at (no_mark indent n next num ended other e) =
    digit_line line (ended_starts indent line next num.digits num.some ended)
misindented_starts limit line at (too_far depth i far e) = indented_starts depth line i

-- any fault of a line
pub line_starts : (limit : ℕ) (line : List ℕ) (kind : MagicFaultKind) (at : ℕ) → LineFault kind limit line at → StartsLine line
line_starts limit line NoHeader at is = absurd is
line_starts limit line Truncated at is = cut_starts limit line is.0
line_starts limit line BadSection at is = absurd is
line_starts limit line BadNumber at is = misnumbered_starts limit line at is
line_starts limit line BadWord at is = of_front line is.before (126 ∷ is.rest) is.whole (to_mask limit is.size is.before is.before_is)
line_starts limit line BadIndent at is = misindented_starts limit line at is
line_starts limit line TooDeep at is = indented_starts 64 line is.0
