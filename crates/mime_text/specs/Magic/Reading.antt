-- Reading a text of magic from front to back, up to its first fault, which carries how many bytes are left at its place.
use Rattle.std.specs.Prelude.{◌≡◌, ℕ, zero, suc, ◌+◌, ◌-◌, ◌*◌, Bool, ◌&&◌, ◌||◌, ◌==◌, nat_lt, nat_le, if◌then◌else◌, List, [], ◌∷◌, ◌++◌}
use Rattle.std.specs.Prelude.{codes, length, take, drop, slice_index, slice_index_or, Option, Some, None, Result, Ok, Err}
use Rattle.mime_base.specs.Magic.{PlainLine, line_from, fits_word}
use Rattle.mime_base.specs.Names.{is_type_name}
use Rattle.mime_text.specs.declared.magic.fault.Fault.{Fault}
use Rattle.mime_text.specs.declared.magic.fault.MagicFaultKind.{MagicFaultKind}
use Rattle.mime_text.specs.declared.magic.fault.MagicFaultKind.TheVariants.{NoHeader, Truncated, BadSection, BadNumber, BadWord, BadIndent}
use Rattle.mime_text.specs.declared.magic.fault.MagicFaultKind.TheVariants.{TooDeep}
use Rattle.mime_text.specs.declared.magic.fault.MagicFault.{MagicFault}
use Rattle.mime_text.specs.declared.magic.fault.MagicFault.TheVariants as faults
use Rattle.mime_text.specs.declared.magic.fault.ReadError.{ReadError}
use Rattle.mime_text.specs.declared.magic.fault.ReadError.TheVariants as errors
use Rattle.mime_text.specs.Magic.Entries.{PlainRole, kept, ignored, marker, PlainEntry, PlainFlatSection}

-- a fault of this kind, where that many bytes are left
abbrev pub fault_at : MagicFaultKind → ℕ → Fault
fault_at kind left = record { kind = kind; left = left }

infixl 10 ◌>>=◌
-- one step of reading after another: the second goes on where the first ended, or the first fault stands
abbrev pub ◌>>=◌ : {A B : Type 0} → Result A Fault → (A → Result B Fault) → Result B Fault
(Ok x) >>= f = f x
(Err e) >>= f = Err e

-- an error of a reader is the fault that reading gives, unless memory ran out
abbrev pub Fails : {Y : Type 0} → ReadError → Result Y Fault → Type 0
Fails errors.OutOfMemory read = Unit {0}
Fails (errors.Fault f) read = read ≡ Err f

-- what a reader of the code returned, its value seen by view, is what reading gives, unless memory ran out
abbrev pub AgreesIfMemory : {X Y : Type 0} → (X → Y) → Result X ReadError → Result Y Fault → Type 0
AgreesIfMemory view (Ok x) read = read ≡ Ok (view x)
AgreesIfMemory view (Err e) read = Fails e read

-- what a reader of the code returned, its value seen by view, is what reading gives
abbrev pub Agrees : {X Y : Type 0} → (X → Y) → Result X Fault → Result Y Fault → Type 0
Agrees view (Ok x) read = read ≡ Ok (view x)
Agrees view (Err f) read = read ≡ Err f

-- ---- numbers

-- 0 to 9
abbrev pub is_digit : ℕ → Bool
is_digit b = nat_le 48 b && nat_le b 57

-- the number whose digits so far have the value n, and what comes after it
unfoldable pub digits_at : ℕ → List ℕ → ℕ × List ℕ
digits_at n [] = (n, [])
digits_at n (b ∷ bytes) = if is_digit b then digits_at (n * 10 + (b - 48)) bytes else (n, b ∷ bytes)

-- a number is judged at the byte after it; `here` is the fault of a missing or large one
unfoldable pub judged : Fault → ℕ → ℕ × List ℕ → Result (ℕ × List ℕ) Fault
judged here size (n, []) = Err (fault_at Truncated 0)
judged here size (n, b ∷ rest) =
    if (length (b ∷ rest) == size) || nat_le 4294967296 n then Err here else Ok (n, b ∷ rest)

-- one or more digits, with a value below 2 ^ 32
unfoldable pub number_at : List ℕ → Result (ℕ × List ℕ) Fault
number_at bytes = judged (fault_at BadNumber (length bytes)) (length bytes) (digits_at 0 bytes)

-- ---- the parts of a line

-- one byte that has to stand here
unfoldable pub byte_at : ℕ → Fault → List ℕ → Result (List ℕ) Fault
byte_at want wrong [] = Err (fault_at Truncated 0)
byte_at want wrong (b ∷ bytes) = if b == want then Ok bytes else Err wrong

-- nothing or a number, and `>`
unfoldable pub indent_at : List ℕ → Result (ℕ × List ℕ) Fault
indent_at [] = Err (fault_at Truncated 0)
indent_at (b ∷ bytes) = if b == 62 then Ok (0, bytes) else (do
  n ← number_at (b ∷ bytes)
  rest ← byte_at 62 (fault_at BadIndent (length (b ∷ bytes))) n.1
  Ok (n.0, rest))

-- a number and `=`
unfoldable pub start_at : List ℕ → Result (ℕ × List ℕ) Fault
start_at bytes = do
  n ← number_at bytes
  rest ← byte_at 61 (fault_at BadNumber (length bytes)) n.1
  Ok (n.0, rest)

-- that many bytes
unfoldable pub bytes_at : ℕ → List ℕ → Result (List ℕ × List ℕ) Fault
bytes_at n bytes =
    if nat_lt (length bytes) n then Err (fault_at Truncated 0) else Ok (take n bytes, drop n bytes)

-- two bytes of length, the higher first, and that many bytes
unfoldable pub sized_at : List ℕ → Result (List ℕ × List ℕ) Fault
sized_at [] = Err (fault_at Truncated 0)
sized_at (high ∷ []) = Err (fault_at Truncated 0)
sized_at (high ∷ low ∷ bytes) = bytes_at (256 * high + low) bytes

-- nothing, or `&` and that many bytes
unfoldable pub mask_at : ℕ → List ℕ → Result (Option (List ℕ) × List ℕ) Fault
mask_at n [] = Ok (None, [])
mask_at n (b ∷ bytes) = if b == 38 then (do
  m ← bytes_at n bytes
  Ok (Some m.0, m.1)) else Ok (None, b ∷ bytes)

-- nothing for 1, or `~` and a number that fits a value of this size
unfoldable pub word_at : ℕ → List ℕ → Result (ℕ × List ℕ) Fault
word_at size [] = Ok (1, [])
word_at size (b ∷ bytes) = if b == 126 then (do
  n ← number_at bytes
  if fits_word n.0 size then Ok n else Err (fault_at BadWord (length bytes))) else Ok (1, b ∷ bytes)

-- nothing for 1, or `+` and a number
unfoldable pub range_at : List ℕ → Result (ℕ × List ℕ) Fault
range_at [] = Ok (1, [])
range_at (b ∷ bytes) = if b == 43 then number_at bytes else Ok (1, b ∷ bytes)

-- the bytes before the next newline, and those after it
unfoldable pub row_at : List ℕ → Result (List ℕ × List ℕ) Fault
row_at [] = Err (fault_at Truncated 0)
row_at (b ∷ bytes) = if b == 10 then Ok ([], bytes) else (do
  row ← row_at bytes
  Ok (b ∷ row.0, row.1))

-- from the start to the range
unfoldable pub body_at : List ℕ → Result (PlainLine × List ℕ) Fault
body_at bytes = do
  start ← start_at bytes
  value ← sized_at start.1
  mask ← mask_at (length value.0) value.1
  word ← word_at (length value.0) mask.1
  range ← range_at word.1
  Ok (line_from start.0 range.0 word.0 value.0 mask.0, range.1)

-- a line that ends in a newline, which has been read; `left` bytes are left at the line's first byte
abbrev pub kept_at : ℕ → PlainLine → List ℕ → Result (PlainRole × List ℕ) Fault
kept_at left own bytes =
    if nat_le 4294967296 (own.start + own.range + length own.value) then Err (fault_at BadNumber left) else Ok (kept own, bytes)

-- a line whose next byte, which has been read, makes it ignored: the bytes up to its newline
abbrev pub ignored_at : List ℕ → Result (PlainRole × List ℕ) Fault
ignored_at bytes = do
  row ← row_at bytes
  Ok (ignored, row.1)

-- the end of a line: a newline, or another byte
unfoldable pub end_at : ℕ → PlainLine → List ℕ → Result (PlainRole × List ℕ) Fault
end_at left own [] = Err (fault_at Truncated 0)
end_at left own (b ∷ bytes) = if b == 10 then kept_at left own bytes else ignored_at bytes

-- a line whose indent may be at most `limit`
unfoldable pub line_at : ℕ → List ℕ → Result (PlainEntry × List ℕ) Fault
line_at limit bytes = do
  indent ← indent_at bytes
  if nat_lt limit indent.0 then Err (fault_at BadIndent (length bytes))
      else (if nat_le 64 indent.0 then Err (fault_at TooDeep (length bytes)) else (do
        body ← body_at indent.1
        role ← end_at (length bytes) body.0 body.1
        Ok (record { indent = indent.0; role = role.0 }, role.1)))

-- ---- markers

-- `>0=__NOMAGIC__`, newline
abbrev pub unsized : List ℕ
unsized = codes ">0=__NOMAGIC__" ++ 10 ∷ []

-- `>0__NOMAGIC__`, newline
abbrev pub short : List ℕ
short = codes ">0__NOMAGIC__" ++ 10 ∷ []

-- with the two bytes of a length, 11
abbrev pub sized : List ℕ
sized = codes ">0=" ++ 0 ∷ 11 ∷ codes "__NOMAGIC__" ++ 10 ∷ []

-- the bytes after a prefix, where they have it
unfoldable pub after_prefix : List ℕ → List ℕ → Option (List ℕ)
after_prefix [] bytes = Some bytes
after_prefix (p ∷ ps) [] = None
after_prefix (p ∷ ps) (b ∷ bytes) = if b == p then after_prefix ps bytes else None

-- the first of two, if it is there
abbrev pub or_else : Option (List ℕ) → Option (List ℕ) → Option (List ℕ)
or_else (Some rest) other = Some rest
or_else None other = other

-- the bytes after a deletion marker, where they begin with one
unfoldable pub marker_at : List ℕ → Option (List ℕ)
marker_at bytes = or_else (after_prefix unsized bytes) (or_else (after_prefix short bytes) (after_prefix sized bytes))

-- whether the fourth byte is an underscore (95), or the fifth is 11, as in each marker
abbrev pub may_be_marker : List ℕ → Bool
may_be_marker bytes = nat_lt 4 (length bytes) && ((slice_index bytes 3 == 95) || (slice_index bytes 4 == 11))

-- a marker where one was found, else the line
abbrev pub marked : Option (List ℕ) → Result (PlainEntry × List ℕ) Fault → Result (PlainEntry × List ℕ) Fault
marked (Some rest) line = Ok (record { indent = 0; role = marker }, rest)
marked None line = line

-- a marker or a line; a marker is tried first
unfoldable pub entry_at : ℕ → List ℕ → Result (PlainEntry × List ℕ) Fault
entry_at limit bytes = marked (marker_at bytes) (line_at limit bytes)

-- ---- sections

-- `>` or a digit
abbrev pub starts_line : ℕ → Bool
starts_line b = (b == 62) || is_digit b

-- the lines up to a byte that starts none; each takes a byte, so `room` is the length of the bytes
unfoldable pub lines_at : ℕ → ℕ → List ℕ → Result (List PlainEntry × List ℕ) Fault
lines_at zero limit bytes = Ok ([], bytes)
lines_at (suc room) limit [] = Ok ([], [])
lines_at (suc room) limit (b ∷ bytes) = if starts_line b then (do
  first ← entry_at limit (b ∷ bytes)
  others ← lines_at room (first.0.indent + 1) first.1
  Ok (first.0 ∷ others.0, others.1)) else Ok ([], b ∷ bytes)

-- a type name and `]` after it
unfoldable pub kind_of : Fault → List ℕ → Result (List ℕ) Fault
kind_of wrong bytes =
    let name = take (length bytes - 1) bytes in
    if (slice_index_or bytes (length bytes - 1) 0 == 93) && is_type_name name
    then Ok name else Err wrong

-- a head's row after the `[`: priority, `:`, type name, `]`
unfoldable pub head_of : Fault → List ℕ → Result (ℕ × List ℕ) Fault
head_of wrong row = do
  priority ← number_at row
  rest ← byte_at 58 wrong priority.1
  kind ← kind_of wrong rest
  Ok (priority.0, kind)

-- another fault in place of any
abbrev pub instead : {A : Type 0} → Fault → Result A Fault → Result A Fault
instead wrong (Ok x) = Ok x
instead wrong (Err e) = Err wrong

-- a head; whatever is wrong in its row is wrong at its first byte
unfoldable pub head_at : List ℕ → Result ((ℕ × List ℕ) × List ℕ) Fault
head_at [] = Err (fault_at Truncated 0)
head_at (b ∷ bytes) = if b == 91 then (do
  row ← row_at bytes
  head ← instead (fault_at BadSection (length (b ∷ bytes))) (head_of (fault_at BadSection (length (b ∷ bytes))) row.0)
  Ok (head, row.1)) else Err (fault_at BadSection (length (b ∷ bytes)))

-- a head and its lines
unfoldable pub section_at : List ℕ → Result (PlainFlatSection × List ℕ) Fault
section_at bytes = do
  head ← head_at bytes
  lines ← lines_at (length head.1) 0 head.1
  Ok (record { priority = head.0.0; kind = head.0.1; entries = lines.0 }, lines.1)

-- sections to the end; each takes a byte, so `room` is the length of the bytes
unfoldable pub sections_at : ℕ → List ℕ → Result (List PlainFlatSection) Fault
sections_at zero bytes = Ok []
sections_at (suc room) [] = Ok []
sections_at (suc room) (b ∷ bytes) = do
  first ← section_at (b ∷ bytes)
  others ← sections_at room first.1
  Ok (first.0 ∷ others)

-- ---- the whole

-- `MIME-Magic`, a zero byte, newline
abbrev pub header : List ℕ
header = codes "MIME-Magic" ++ 0 ∷ 10 ∷ []

-- the sections after the header
abbrev pub below_header : ℕ → Option (List ℕ) → Result (List PlainFlatSection) Fault
below_header size None = Err (fault_at NoHeader size)
below_header size (Some rest) = sections_at (length rest) rest

-- nothing, or the header and sections
unfoldable pub whole : List ℕ → Result (List PlainFlatSection) Fault
whole [] = Ok []
whole (b ∷ bytes) = below_header (length (b ∷ bytes)) (after_prefix header (b ∷ bytes))

-- ---- the fault of a text

-- a fault with its offset, in a text of that many bytes
abbrev pub placed : ℕ → Fault → MagicFault
placed size fault = faults.Malformed fault.kind (size - fault.left)

-- the same for an error of a reader
abbrev pub placed_error : ℕ → ReadError → MagicFault
placed_error size errors.OutOfMemory = faults.OutOfMemory
placed_error size (errors.Fault fault) = placed size fault

-- the fault of what was read, in a text of that many bytes
abbrev pub fault_in : {A : Type 0} → ℕ → Result A Fault → Option MagicFault
fault_in size (Ok x) = None
fault_in size (Err fault) = Some (placed size fault)

-- the first fault of a text, with its offset
unfoldable pub magic_fault : List ℕ → Option MagicFault
magic_fault text = fault_in (length text) (whole text)
