-- Indents of lines on both sides of each limit, with their faults. Each law computes.
use Rattle.std.specs.Prelude.{◌≡◌, ℕ, List, [], ◌∷◌, ◌++◌, codes, Some, None, refl}
use Rattle.mime_text.specs.declared.magic.fault.MagicFault.TheVariants.{Malformed}
use Rattle.mime_text.specs.declared.magic.fault.MagicFaultKind.TheVariants.{BadIndent}
use Rattle.mime_text.specs.Magic.Reading.{magic_fault}
use Rattle.mime_text.specs.Magic.Rows.{computing, section, value_a}

-- zeros before an indent count for nothing
indent_zeros : magic_fault (section (codes "000>0=" ++ value_a)) ≡ None
unfolding computing
indent_zeros = refl

-- an indent with another byte than `>` after it
no_mark : magic_fault (section (codes "0x")) ≡ Some (Malformed BadIndent 21)
unfolding computing
no_mark = refl

-- an indent with a newline after it
newline_for_mark : magic_fault (section (codes "0" ++ 10 ∷ [])) ≡ Some (Malformed BadIndent 21)
unfolding computing
newline_for_mark = refl

-- the indent is tested before the start
before_start : magic_fault (section (codes "1>x")) ≡ Some (Malformed BadIndent 21)
unfolding computing
before_start = refl

-- a line that is one deeper than the line before
one_deeper : magic_fault (section (codes ">0=" ++ value_a ++ codes "1>0=" ++ value_a)) ≡ None
unfolding computing
one_deeper = refl

-- a line that is two deeper than the line before
two_deeper : magic_fault (section (codes ">0=" ++ value_a ++ codes "2>0=" ++ value_a)) ≡ Some (Malformed BadIndent 28)
unfolding computing
two_deeper = refl

-- lines of the indents 0, 1 and 0
abbrev back_to_0 : List ℕ
back_to_0 = codes ">0=" ++ value_a ++ codes "1>0=" ++ value_a ++ codes ">0=" ++ value_a

-- a line that is less deep than the line before
back_to_first : magic_fault (section back_to_0) ≡ None
unfolding computing
back_to_first = refl

-- the limit is that of the line right before
two_after_back : magic_fault (section (back_to_0 ++ codes "2>0=" ++ value_a)) ≡ Some (Malformed BadIndent 43)
unfolding computing
two_after_back = refl

-- the first line of the next section has no line before it
next_section : magic_fault (section (codes ">0=" ++ value_a ++ codes "[50:t/b]" ++ 10 ∷ codes "1>0=" ++ value_a))
    ≡ Some (Malformed BadIndent 37)
unfolding computing
next_section = refl

-- the indent 64 on a first line is no TooDeep
deep_first : magic_fault (section (codes "64>0=" ++ value_a)) ≡ Some (Malformed BadIndent 21)
unfolding computing
deep_first = refl
