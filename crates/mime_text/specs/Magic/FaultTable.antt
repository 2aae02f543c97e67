-- The table of the faults of a text of magic, apart from any way to read it. The text is met from front to back, so a row
-- says what is whole before the fault, what stands next, and the offset that the fault carries.
use Rattle.std.specs.Prelude.{◌≡◌, ◌≢◌, ℕ, ◌+◌, ◌*◌, ◌<◌, ◌≤◌, ◌⊎◌, true, false, List, [], ◌∷◌, ◌++◌, length, Option}
use Rattle.mime_base.specs.Magic.{PlainLine, fits_word}
use Rattle.mime_base.specs.Names.{is_type_name}
use Rattle.mime_text.specs.declared.magic.fault.MagicFault.{MagicFault}
use Rattle.mime_text.specs.declared.magic.fault.MagicFault.TheVariants.{Malformed, OutOfMemory}
use Rattle.mime_text.specs.declared.magic.fault.MagicFaultKind.TheVariants.{NoHeader, Truncated, BadSection, BadNumber, BadWord, BadIndent}
use Rattle.mime_text.specs.declared.magic.fault.MagicFaultKind.TheVariants.{TooDeep}
use Rattle.mime_text.specs.Magic.Entries.{PlainEntry, PlainFlatSection}
use Rattle.mime_text.specs.Magic.Reading.{is_digit, starts_line, header}
use Rattle.mime_text.specs.Magic.Text.{value_of, AreDigits, IsNumber, IsIndent, IsOptional, IsMask, IsBody, NoNewline, IsMarker}
use Rattle.mime_text.specs.Magic.Text.{BeginsMarker, IsSection, AreSections, MagicText}

-- ---- what is whole before the fault

-- the header and whole sections
pub record AreWhole (text : List ℕ) : Type 0 where
  pub sections : List ℕ
  pub parts : List PlainFlatSection
  pub whole : text ≡ header ++ sections
  pub are : AreSections sections parts

-- the greatest indent that a line may have after these lines
abbrev pub limit_after : ℕ → List PlainEntry → ℕ
limit_after limit [] = limit
limit_after limit (line ∷ lines) = limit_after (line.indent + 1) lines

-- the header and sections, at least one, and a line with an indent of at most `limit` may come next
pub record IsBeforeLine (limit : ℕ) (text : List ℕ) : Type 0 where
  pub before : List ℕ
  pub last : List ℕ
  pub section : PlainFlatSection
  pub whole : text ≡ before ++ last
  pub before_are : AreWhole before
  pub last_is : IsSection last section
  pub limit_is : limit_after 0 section.entries ≡ limit

-- of a line: an indent that may stand here, and `>`
pub record IsToIndent (limit : ℕ) (text : List ℕ) : Type 0 where
  pub indent : List ℕ
  pub depth : ℕ
  pub whole : text ≡ indent ++ 62 ∷ []
  pub indent_is : IsIndent indent depth
  pub allowed : depth ≤ limit
  pub shallow : depth < 64

-- and a start and `=`
pub record IsToStart (limit : ℕ) (text : List ℕ) : Type 0 where
  pub before : List ℕ
  pub start : List ℕ
  pub n : ℕ
  pub whole : text ≡ before ++ (start ++ 61 ∷ [])
  pub before_is : IsToIndent limit before
  pub start_is : IsNumber start n

-- and a value with its two bytes of length, the higher first
pub record IsToValue (limit size : ℕ) (text : List ℕ) : Type 0 where
  pub before : List ℕ
  pub high : ℕ
  pub low : ℕ
  pub value : List ℕ
  pub whole : text ≡ before ++ (high ∷ low ∷ value)
  pub before_is : IsToStart limit before
  pub size_is : length value ≡ size
  pub length_is : 256 * high + low ≡ size

-- and a mask, or none
pub record IsToMask (limit size : ℕ) (text : List ℕ) : Type 0 where
  pub before : List ℕ
  pub mask : List ℕ
  pub bytes : Option (List ℕ)
  pub whole : text ≡ before ++ mask
  pub before_is : IsToValue limit size before
  pub mask_is : IsMask size mask bytes

-- and a word, or none
pub record IsToWord (limit size : ℕ) (text : List ℕ) : Type 0 where
  pub before : List ℕ
  pub word : List ℕ
  pub n : ℕ
  pub whole : text ≡ before ++ word
  pub before_is : IsToMask limit size before
  pub word_is : IsOptional 126 word n
  pub fits : fits_word n size ≡ true

-- all parts of a line, where the byte `next` comes after them
pub record IsToEnd (limit : ℕ) (own : PlainLine) (next : ℕ) (text : List ℕ) : Type 0 where
  pub before : List ℕ
  pub body : List ℕ
  pub whole : text ≡ before ++ body
  pub before_is : IsToIndent limit before
  pub body_is : IsBody body own next

-- where a number has to come next: the start, after `~` a word, or after `+` a range
pub data IsBeforeNumber (limit : ℕ) (text : List ℕ) : Type 0 where
  before_start : IsToIndent limit text → IsBeforeNumber limit text
  before_word : (size : ℕ) (before : List ℕ) → text ≡ before ++ 126 ∷ [] → IsToMask limit size before
      → IsBeforeNumber limit text
  before_range : (size : ℕ) (before : List ℕ) → text ≡ before ++ 43 ∷ [] → IsToWord limit size before
      → IsBeforeNumber limit text

-- ---- the faults of a line, each with its offset from the line's first byte

-- digits that end at the byte `next`
pub record IsEnded (digits : List ℕ) (next : ℕ) (text : List ℕ) : Type 0 where
  pub after : List ℕ
  pub whole : text ≡ digits ++ next ∷ after
  pub ends : is_digit next ≡ false

-- a number that ends, and is missing or above 4,294,967,295
pub record IsBadNumber (text : List ℕ) : Type 0 where
  pub digits : List ℕ
  pub next : ℕ
  pub ended : IsEnded digits next text
  pub digits_are : AreDigits digits
  pub bad : (digits ≡ []) ⊎ (4294967296 ≤ value_of 0 digits)

-- Truncated: the text ends inside the line
pub data IsCutLine (limit : ℕ) (line : List ℕ) : Type 0 where
  -- in the digits of the indent
  in_indent : 0 < length line → AreDigits line → IsCutLine limit line
  -- before or in the digits of another number, however large they are so far
  in_number : (before digits : List ℕ) → line ≡ before ++ digits → IsBeforeNumber limit before → AreDigits digits → IsCutLine limit line
  -- before the value's two bytes of length, or between them
  in_length : (before cut : List ℕ) → line ≡ before ++ cut → IsToStart limit before → length cut < 2 → IsCutLine limit line
  -- in the value
  in_value : (before : List ℕ) (high low : ℕ) (cut : List ℕ) → line ≡ before ++ (high ∷ low ∷ cut) → IsToStart limit before
      → length cut < 256 * high + low → IsCutLine limit line
  -- in the mask
  in_mask : (size : ℕ) (before cut : List ℕ) → line ≡ before ++ 38 ∷ cut → IsToValue limit size before
      → length cut < size → IsCutLine limit line
  -- after the value or the mask
  before_end : (size : ℕ) → IsToMask limit size line → IsCutLine limit line
  -- in what makes the line ignored
  before_newline : (before after : List ℕ) (own : PlainLine) (next : ℕ) → line ≡ before ++ next ∷ after → IsToEnd limit own next before
      → next ≢ 10 → NoNewline after → IsCutLine limit line

-- BadNumber, at the number where one is wrong, or else at the line
pub data IsMisnumbered (limit : ℕ) (line : List ℕ) (at : ℕ) : Type 0 where
  -- an indent is above 4,294,967,295
  large_indent : (indent : List ℕ) (next : ℕ) → IsEnded indent next line → AreDigits indent → 4294967296 ≤ value_of 0 indent
      → at ≡ 0 → IsMisnumbered limit line at
  -- another number is missing or above that
  bad_number : (before rest : List ℕ) → line ≡ before ++ rest → IsBeforeNumber limit before → IsBadNumber rest
      → at ≡ length before → IsMisnumbered limit line at
  -- the start has no `=` after it
  no_equals : (before rest start : List ℕ) (n next : ℕ) → line ≡ before ++ rest → IsToIndent limit before → IsNumber start n
      → IsEnded start next rest → next ≢ 61 → at ≡ length before → IsMisnumbered limit line at
  -- the newline comes, and the sum is too large
  large_sum : (before after : List ℕ) (own : PlainLine) → line ≡ before ++ 10 ∷ after → IsToEnd limit own 10 before
      → 4294967296 ≤ own.start + own.range + length own.value → at ≡ 0 → IsMisnumbered limit line at

-- BadWord, at the number: a word isn't 1, 2 or 4, or doesn't divide the length of the value
pub record IsMisworded (limit : ℕ) (line : List ℕ) (at : ℕ) : Type 0 where
  pub size : ℕ
  pub before : List ℕ
  pub rest : List ℕ
  pub word : List ℕ
  pub n : ℕ
  pub next : ℕ
  pub whole : line ≡ before ++ 126 ∷ rest
  pub before_is : IsToMask limit size before
  pub word_is : IsNumber word n
  pub ended : IsEnded word next rest
  pub misfit : fits_word n size ≡ false
  pub place : at ≡ length before + 1

-- an indent of this depth, and `>`
pub record IsIndented (depth : ℕ) (line : List ℕ) : Type 0 where
  pub indent : List ℕ
  pub after : List ℕ
  pub whole : line ≡ indent ++ 62 ∷ after
  pub indent_is : IsIndent indent depth

-- BadIndent, at the line
pub data IsMisindented (limit : ℕ) (line : List ℕ) (at : ℕ) : Type 0 where
  -- the indent has no `>` after it
  no_mark : (indent : List ℕ) (n next : ℕ) → IsNumber indent n → IsEnded indent next line → next ≢ 62
      → at ≡ 0 → IsMisindented limit line at
  -- it is more than one above that of the line before, or above 0 on the first line of a section
  too_far : (depth : ℕ) → IsIndented depth line → limit < depth → at ≡ 0 → IsMisindented limit line at

-- TooDeep, at the line: the indent is 64, and no BadIndent
abbrev pub IsIndentTooDeep : ℕ → List ℕ → ℕ → Type 0
IsIndentTooDeep limit line at = IsIndented 64 line × (64 ≤ limit) × (at ≡ 0)

-- ---- the faults of a head, and of what stands between heads and lines

-- what stands between `[` and the newline of a head
abbrev pub IsSectionHead : List ℕ → Type 0
IsSectionHead row =
    (priority : List ℕ) × (n : ℕ) × (kind : List ℕ) × (row ≡ priority ++ (58 ∷ (kind ++ 93 ∷ [])))
    × IsNumber priority n × (is_type_name kind ≡ true)

-- Truncated: the text ends before the newline of a head
pub record IsCutHead (text : List ℕ) : Type 0 where
  pub before : List ℕ
  pub row : List ℕ
  pub whole : text ≡ before ++ 91 ∷ row
  pub before_are : AreWhole before
  pub open_ended : NoNewline row

-- BadSection: a head's row up to its newline is none
pub record IsMisheaded (text : List ℕ) (at : ℕ) : Type 0 where
  pub before : List ℕ
  pub row : List ℕ
  pub after : List ℕ
  pub whole : text ≡ before ++ 91 ∷ (row ++ 10 ∷ after)
  pub before_are : AreWhole before
  pub is_row : NoNewline row
  pub no_head : IsSectionHead row → ⊥
  pub place : at ≡ length before

-- BadSection: a byte that begins neither a head nor a line, or before the first section no head
pub record IsMisplaced (text : List ℕ) (at : ℕ) : Type 0 where
  pub before : List ℕ
  pub first : ℕ
  pub after : List ℕ
  pub whole : text ≡ before ++ first ∷ after
  pub before_are : AreWhole before
  pub no_head : first ≢ 91
  pub no_line : (before ≡ header) ⊎ (starts_line first ≡ false)
  pub place : at ≡ length before

-- ---- the table

-- a line comes next that begins with no deletion marker, and this is wrong with it, so far after its first byte
pub record InLine (IsWrong : ℕ → List ℕ → ℕ → Type 0) (text : List ℕ) (at : ℕ) : Type 0 where
  pub limit : ℕ
  pub before : List ℕ
  pub line : List ℕ
  pub within : ℕ
  pub whole : text ≡ before ++ line
  pub before_is : IsBeforeLine limit before
  pub no_marker : BeginsMarker line → ⊥
  pub wrong : IsWrong limit line within
  pub place : at ≡ length before + within

-- the line is cut where the text ends
abbrev pub IsCutAtEnd : ℕ → List ℕ → ℕ → Type 0
IsCutAtEnd limit line at = IsCutLine limit line × (at ≡ length line)

-- the text has this fault
abbrev pub HasFault : List ℕ → MagicFault → Type 0
HasFault text (Malformed NoHeader at) = (text ≢ []) × ((rest : List ℕ) → text ≢ header ++ rest) × (at ≡ 0)
HasFault text (Malformed Truncated at) = (IsCutHead text × (at ≡ length text)) ⊎ InLine IsCutAtEnd text at
HasFault text (Malformed BadSection at) = IsMisheaded text at ⊎ IsMisplaced text at
HasFault text (Malformed BadNumber at) = InLine IsMisnumbered text at
HasFault text (Malformed BadWord at) = InLine IsMisworded text at
HasFault text (Malformed BadIndent at) = InLine IsMisindented text at
HasFault text (Malformed TooDeep at) = InLine IsIndentTooDeep text at
HasFault text OutOfMemory = ⊥

-- ---- what appending can change

-- a fault other than a missing header and a cut
abbrev pub IsFinal : MagicFault → Type 0
IsFinal (Malformed kind at) = (kind ≢ NoHeader) × (kind ≢ Truncated)
IsFinal OutOfMemory = ⊥

-- something can be appended with which the text is whole, or has a fault other than these two
abbrev pub CanEnd : List ℕ → Type 0
CanEnd text = (more : List ℕ) × (((parts : List PlainFlatSection) × MagicText (text ++ more) parts)
    ⊎ ((fault : MagicFault) × HasFault (text ++ more) fault × IsFinal fault))

-- the text ends inside a deletion marker: its last line and `more` would be one
pub record EndsInMarker (text : List ℕ) : Type 0 where
  pub limit : ℕ
  pub before : List ℕ
  pub line : List ℕ
  pub more : List ℕ
  pub whole : text ≡ before ++ line
  pub before_is : IsBeforeLine limit before
  pub begun : 0 < length line
  pub cut : 0 < length more
  pub marker_is : IsMarker (line ++ more)

-- the text is the header but for bytes at its end
abbrev pub EndsInHeader : List ℕ → Type 0
EndsInHeader text = (more : List ℕ) × (header ≡ text ++ more)

-- something can be appended with which the text is whole, or has another fault than this
abbrev pub CanGoOn : List ℕ → MagicFault → Type 0
CanGoOn text fault = (more : List ℕ) × (((parts : List PlainFlatSection) × MagicText (text ++ more) parts)
    ⊎ ((other : MagicFault) × HasFault (text ++ more) other × (other ≢ fault)))

-- a text with this fault can go on: it is cut, or it ends inside the header or a marker
abbrev pub IsOpen : List ℕ → MagicFault → Type 0
IsOpen text fault = (fault ≡ Malformed Truncated (length text)) ⊎ (EndsInHeader text ⊎ EndsInMarker text)
