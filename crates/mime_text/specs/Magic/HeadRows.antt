-- Heads of sections, and what stands in the place of one, with their faults. Each law computes.
use Rattle.std.specs.Prelude.{◌≡◌, [], ◌∷◌, ◌++◌, codes, Some, None, refl}
use Rattle.mime_text.specs.declared.magic.fault.MagicFault.TheVariants.{Malformed}
use Rattle.mime_text.specs.declared.magic.fault.MagicFaultKind.TheVariants.{Truncated, BadSection}
use Rattle.mime_text.specs.Magic.Reading.{header, magic_fault}
use Rattle.mime_text.specs.Magic.Rows.{computing, section}

-- a byte that begins no section, right after the header
no_section : magic_fault (header ++ codes "x") ≡ Some (Malformed BadSection 12)
unfolding computing
no_section = refl

-- a line before the first section
line_first : magic_fault (header ++ codes ">0=" ++ 0 ∷ 1 ∷ codes "a" ++ 10 ∷ []) ≡ Some (Malformed BadSection 12)
unfolding computing
line_first = refl

-- a digit before the first section
digit_first : magic_fault (header ++ codes "0") ≡ Some (Malformed BadSection 12)
unfolding computing
digit_first = refl

-- `[` and the end: a head is read up to its newline first
bracket_alone : magic_fault (header ++ codes "[") ≡ Some (Malformed Truncated 13)
unfolding computing
bracket_alone = refl

-- a wrong head without its newline
wrong_head_cut : magic_fault (header ++ codes "[x:t/a]") ≡ Some (Malformed Truncated 19)
unfolding computing
wrong_head_cut = refl

-- a head without its newline
head_cut : magic_fault (header ++ codes "[50:t/a]") ≡ Some (Malformed Truncated 20)
unfolding computing
head_cut = refl

-- a head with its newline
head_whole : magic_fault (header ++ codes "[50:t/a]" ++ 10 ∷ []) ≡ None
unfolding computing
head_whole = refl

-- no priority
no_priority : magic_fault (header ++ codes "[:t/a]" ++ 10 ∷ []) ≡ Some (Malformed BadSection 12)
unfolding computing
no_priority = refl

-- the greatest priority
greatest_priority : magic_fault (header ++ codes "[4294967295:t/a]" ++ 10 ∷ []) ≡ None
unfolding computing
greatest_priority = refl

-- a priority that is one too large
large_priority : magic_fault (header ++ codes "[4294967296:t/a]" ++ 10 ∷ []) ≡ Some (Malformed BadSection 12)
unfolding computing
large_priority = refl

-- zeros before a priority count for nothing
priority_zeros : magic_fault (header ++ codes "[00000000000050:t/a]" ++ 10 ∷ []) ≡ None
unfolding computing
priority_zeros = refl

-- no colon
no_colon : magic_fault (header ++ codes "[50t/a]" ++ 10 ∷ []) ≡ Some (Malformed BadSection 12)
unfolding computing
no_colon = refl

-- a type without a slash
no_slash : magic_fault (header ++ codes "[50:ta]" ++ 10 ∷ []) ≡ Some (Malformed BadSection 12)
unfolding computing
no_slash = refl

-- no `]`
no_bracket : magic_fault (header ++ codes "[50:t/a" ++ 10 ∷ []) ≡ Some (Malformed BadSection 12)
unfolding computing
no_bracket = refl

-- a type may hold `[`
bracket_within : magic_fault (header ++ codes "[50:t/[a]" ++ 10 ∷ []) ≡ None
unfolding computing
bracket_within = refl

-- a wrong head after a section
second_head : magic_fault (section (codes "[x:t/a]" ++ 10 ∷ [])) ≡ Some (Malformed BadSection 21)
unfolding computing
second_head = refl

-- a head after a section, without its newline
second_head_cut : magic_fault (section (codes "[50:t/a]")) ≡ Some (Malformed Truncated 29)
unfolding computing
second_head_cut = refl

-- after a section a byte that begins neither a line nor a section
no_line : magic_fault (section (codes "x")) ≡ Some (Malformed BadSection 21)
unfolding computing
no_line = refl

-- an empty line after a section
empty_line : magic_fault (section (10 ∷ [])) ≡ Some (Malformed BadSection 21)
unfolding computing
empty_line = refl
