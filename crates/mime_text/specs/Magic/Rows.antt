-- Texts of magic with what the definitions make of them. Each law computes.
use Rattle.std.specs.Prelude.{◌≡◌, ℕ, zero, suc, ◌+◌, ◌/◌, ◌%◌, List, [], ◌∷◌, ◌++◌, codes, Result, Ok, Some, None, refl}
use Rattle.mime_base.specs.Magic.{bare, line, PlainSection}
use Rattle.mime_base.specs.Names.{is_type_name}
use Rattle.mime_text.specs.declared.magic.fault.Fault.{Fault}
use Rattle.mime_text.specs.declared.magic.fault.MagicFault.TheVariants.{Malformed}
use Rattle.mime_text.specs.declared.magic.fault.MagicFaultKind.TheVariants.{NoHeader, Truncated, BadSection, BadNumber, BadWord, BadIndent}
use Rattle.mime_text.specs.declared.magic.fault.MagicFaultKind.TheVariants.{TooDeep}
use Rattle.mime_text.specs.Magic.Reading.{◌>>=◌, digits_at, judged, number_at, byte_at, indent_at, start_at, bytes_at, sized_at, mask_at}
use Rattle.mime_text.specs.Magic.Reading.{word_at, range_at, row_at, body_at, end_at, line_at, after_prefix, marker_at, entry_at, lines_at}
use Rattle.mime_text.specs.Magic.Reading.{kind_of, head_of, head_at, section_at, sections_at, header, whole, magic_fault}
use Rattle.mime_text.specs.Magic.Forest.{roots_of, forest}
use Rattle.mime_text.specs.Magic.File.{kept_sections, deleted_kinds}

-- what a line computes with
unfoldable computing_line : Unit {0}
unfolding digits_at judged number_at byte_at indent_at start_at bytes_at sized_at mask_at word_at range_at row_at body_at end_at line_at
computing_line = tt

-- what a section computes with
unfoldable computing_section : Unit {0}
unfolding computing_line after_prefix marker_at entry_at lines_at kind_of head_of head_at section_at is_type_name
computing_section = tt

-- what the rows compute with
unfoldable pub computing : Unit {0}
unfolding computing_section sections_at whole magic_fault roots_of forest
computing = tt

-- the sections that are kept, and the types that are deleted
abbrev file_of : List ℕ → Result (List PlainSection × List (List ℕ)) Fault
file_of text = whole text >>= λ parts. Ok (kept_sections parts, deleted_kinds parts)

-- these lines in a section of the priority 50 and the type `t/a`; the first begins at 21
abbrev pub section : List ℕ → List ℕ
section lines = header ++ codes "[50:t/a]" ++ 10 ∷ lines

-- a line of the value `c`, as text and as it is read
abbrev line_c : List ℕ
line_c = codes ">0=" ++ 0 ∷ 1 ∷ codes "c" ++ 10 ∷ []

-- 00 01 `a` newline, after an indent, `>`, a start and `=`
abbrev pub value_a : List ℕ
value_a = 0 ∷ 1 ∷ codes "a" ++ 10 ∷ []

-- the same with an unknown byte, so that the line is ignored
abbrev pub ignored_a : List ℕ
ignored_a = 0 ∷ 1 ∷ codes "a?" ++ 10 ∷ []

-- the one section that keeps the line of the value `c`
abbrev only_c : List PlainSection
only_c = record {
  priority = 50;
  kind = codes "t/a";
  lines = line (record { start = 0; range = 1; word = 1; value = codes "c"; mask = None }) bare bare;
} ∷ []

-- ---- faults

-- no bytes at all
no_bytes : file_of [] ≡ Ok ([], [])
unfolding computing
no_bytes = refl

-- the four bytes `MIME`
no_header : magic_fault (codes "MIME") ≡ Some (Malformed NoHeader 0)
unfolding computing
no_header = refl

-- `>0=` 00 05 `ab` newline
cut_value : magic_fault (section (codes ">0=" ++ 0 ∷ 5 ∷ codes "ab" ++ 10 ∷ [])) ≡ Some (Malformed Truncated 29)
unfolding computing
cut_value = refl

-- `[x:t/a]` newline
no_priority : magic_fault (header ++ codes "[x:t/a]" ++ 10 ∷ []) ≡ Some (Malformed BadSection 12)
unfolding computing
no_priority = refl

-- `>=` 00 01 `a` newline
no_start : magic_fault (section (codes ">=" ++ 0 ∷ 1 ∷ codes "a" ++ 10 ∷ [])) ≡ Some (Malformed BadNumber 22)
unfolding computing
no_start = refl

-- `>4294967294=` 00 01 `a` newline
large_sum : magic_fault (section (codes ">4294967294=" ++ 0 ∷ 1 ∷ codes "a" ++ 10 ∷ [])) ≡ Some (Malformed BadNumber 21)
unfolding computing
large_sum = refl

-- `>4294967293=` 00 01 `a` newline
largest_sum : magic_fault (section (codes ">4294967293=" ++ 0 ∷ 1 ∷ codes "a" ++ 10 ∷ [])) ≡ None
unfolding computing
largest_sum = refl

-- `>0=` 00 03 `abc~2` newline
odd_word : magic_fault (section (codes ">0=" ++ 0 ∷ 3 ∷ codes "abc~2" ++ 10 ∷ [])) ≡ Some (Malformed BadWord 30)
unfolding computing
odd_word = refl

-- `1>0=` 00 01 `a` newline
first_indent : magic_fault (section (codes "1>0=" ++ 0 ∷ 1 ∷ codes "a" ++ 10 ∷ [])) ≡ Some (Malformed BadIndent 21)
unfolding computing
first_indent = refl

-- lines of the indents from n on, that many, one each, with two digits for the indent
abbrev levels : ℕ → ℕ → List ℕ
levels n zero = []
levels n (suc more) = (48 + n / 10) ∷ (48 + n % 10) ∷ codes ">0=" ++ 0 ∷ 1 ∷ codes "a" ++ 10 ∷ levels (n + 1) more

-- the indents 0 to 63
sixty_four_levels : magic_fault (section (levels 0 64)) ≡ None
unfolding computing
sixty_four_levels = refl

-- 64 lines of 9 bytes stand before the last
sixty_five_levels : magic_fault (section (levels 0 65)) ≡ Some (Malformed TooDeep 597)
unfolding computing
sixty_five_levels = refl

-- ---- markers and ignored lines

-- a section without lines
no_lines : file_of (section []) ≡ Ok ([], [])
unfolding computing
no_lines = refl

-- `>0__NOMAGIC__` newline
short_marker : file_of (section (codes ">0__NOMAGIC__" ++ 10 ∷ [])) ≡ Ok ([], codes "t/a" ∷ [])
unfolding computing
short_marker = refl

-- `>0=` 00 0B `__NOMAGIC__` newline
sized_marker : file_of (section (codes ">0=" ++ 0 ∷ 11 ∷ codes "__NOMAGIC__" ++ 10 ∷ [])) ≡ Ok ([], codes "t/a" ∷ [])
unfolding computing
sized_marker = refl

-- `>0=__NOMAGIC__` newline, and a line
marker_and_line : file_of (section (codes ">0=__NOMAGIC__" ++ 10 ∷ line_c)) ≡ Ok (only_c, codes "t/a" ∷ [])
unfolding computing
marker_and_line = refl

-- `>0=__NOMAGIC__x` newline: `__` is a length of 24,415
longer_than_marker : magic_fault (section (codes ">0=__NOMAGIC__x" ++ 10 ∷ [])) ≡ Some (Malformed Truncated 37)
unfolding computing
longer_than_marker = refl

-- `>0=` 00 01 `a+3~2` newline
word_behind_range : file_of (section (codes ">0=" ++ 0 ∷ 1 ∷ codes "a+3~2" ++ 10 ∷ [])) ≡ Ok ([], [])
unfolding computing
word_behind_range = refl

-- `>0=` 00 01 `a?zz` newline, and `1>0=` 00 01 `b` newline below it
abbrev ignored_and_below : List ℕ
ignored_and_below = codes ">0=" ++ 0 ∷ 1 ∷ codes "a?zz" ++ 10 ∷ codes "1>0=" ++ 0 ∷ 1 ∷ codes "b" ++ 10 ∷ []

-- the ignored line, the line below it, and a line beside it
ignored_magic_line : file_of (section (ignored_and_below ++ line_c)) ≡ Ok (only_c, [])
unfolding computing
ignored_magic_line = refl

-- a marker before the first section
no_section : magic_fault (header ++ codes ">0__NOMAGIC__" ++ 10 ∷ []) ≡ Some (Malformed BadSection 12)
unfolding computing
no_section = refl

-- `0>0__NOMAGIC__` newline is a line, whose start has no `=`
no_marker_behind_an_indent : magic_fault (section (codes "0>0__NOMAGIC__" ++ 10 ∷ [])) ≡ Some (Malformed BadNumber 23)
unfolding computing
no_marker_behind_an_indent = refl

-- a short marker that is cut
cut_marker : magic_fault (section (codes ">0__NOMAG")) ≡ Some (Malformed BadNumber 22)
unfolding computing
cut_marker = refl

-- `[50:t/a]x` newline
behind_the_bracket : magic_fault (header ++ codes "[50:t/a]x" ++ 10 ∷ []) ≡ Some (Malformed BadSection 12)
unfolding computing
behind_the_bracket = refl

-- `[50:t/a]]` newline and a marker
bracket_in_a_type : file_of (header ++ codes "[50:t/a]]" ++ 10 ∷ codes ">0__NOMAGIC__" ++ 10 ∷ []) ≡ Ok ([], codes "t/a]" ∷ [])
unfolding computing
bracket_in_a_type = refl
