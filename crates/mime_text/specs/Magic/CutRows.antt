-- Texts of magic that end inside a line, and the fault of each. Each law computes.
use Rattle.std.specs.Prelude.{◌≡◌, [], ◌∷◌, ◌++◌, codes, Some, None, refl}
use Rattle.mime_text.specs.declared.magic.fault.MagicFault.TheVariants.{Malformed}
use Rattle.mime_text.specs.declared.magic.fault.MagicFaultKind.TheVariants.{Truncated}
use Rattle.mime_text.specs.Magic.Reading.{magic_fault}
use Rattle.mime_text.specs.Magic.Rows.{computing, section}

-- `1` and the end
cut_after_indent : magic_fault (section (codes "1")) ≡ Some (Malformed Truncated 22)
unfolding computing
cut_after_indent = refl

-- `>` and the end
cut_after_mark : magic_fault (section (codes ">")) ≡ Some (Malformed Truncated 22)
unfolding computing
cut_after_mark = refl

-- `>0` and the end
cut_in_start : magic_fault (section (codes ">0")) ≡ Some (Malformed Truncated 23)
unfolding computing
cut_in_start = refl

-- `>0=` and the end
cut_after_start : magic_fault (section (codes ">0=")) ≡ Some (Malformed Truncated 24)
unfolding computing
cut_after_start = refl

-- one byte of the length and the end
cut_in_length : magic_fault (section (codes ">0=" ++ 0 ∷ [])) ≡ Some (Malformed Truncated 25)
unfolding computing
cut_in_length = refl

-- the length 1 and the end
cut_after_length : magic_fault (section (codes ">0=" ++ 0 ∷ 1 ∷ [])) ≡ Some (Malformed Truncated 26)
unfolding computing
cut_after_length = refl

-- one of two bytes of the value and the end
cut_in_value : magic_fault (section (codes ">0=" ++ 0 ∷ 2 ∷ codes "a")) ≡ Some (Malformed Truncated 27)
unfolding computing
cut_in_value = refl

-- a whole value and the end
cut_after_value : magic_fault (section (codes ">0=" ++ 0 ∷ 1 ∷ codes "a")) ≡ Some (Malformed Truncated 27)
unfolding computing
cut_after_value = refl

-- a whole value and a newline
whole_line : magic_fault (section (codes ">0=" ++ 0 ∷ 1 ∷ codes "a" ++ 10 ∷ [])) ≡ None
unfolding computing
whole_line = refl

-- a value of no bytes and a newline
empty_value : magic_fault (section (codes ">0=" ++ 0 ∷ 0 ∷ 10 ∷ [])) ≡ None
unfolding computing
empty_value = refl

-- `&` and the end
cut_in_mask : magic_fault (section (codes ">0=" ++ 0 ∷ 1 ∷ codes "a&")) ≡ Some (Malformed Truncated 28)
unfolding computing
cut_in_mask = refl

-- a whole mask and the end
cut_after_mask : magic_fault (section (codes ">0=" ++ 0 ∷ 1 ∷ codes "a&m")) ≡ Some (Malformed Truncated 29)
unfolding computing
cut_after_mask = refl

-- `~` and the end
cut_before_word : magic_fault (section (codes ">0=" ++ 0 ∷ 1 ∷ codes "a~")) ≡ Some (Malformed Truncated 28)
unfolding computing
cut_before_word = refl

-- a word and the end: it is judged at the byte after its digits
cut_in_word : magic_fault (section (codes ">0=" ++ 0 ∷ 1 ∷ codes "a~3")) ≡ Some (Malformed Truncated 29)
unfolding computing
cut_in_word = refl

-- `+` and the end
cut_before_range : magic_fault (section (codes ">0=" ++ 0 ∷ 1 ∷ codes "a+")) ≡ Some (Malformed Truncated 28)
unfolding computing
cut_before_range = refl

-- a range and the end
cut_in_range : magic_fault (section (codes ">0=" ++ 0 ∷ 1 ∷ codes "a+1")) ≡ Some (Malformed Truncated 29)
unfolding computing
cut_in_range = refl

-- digits of a number that is too large, and the end
cut_in_large_number : magic_fault (section (codes ">4294967296")) ≡ Some (Malformed Truncated 32)
unfolding computing
cut_in_large_number = refl

-- an ignored line without its newline
cut_ignored_line : magic_fault (section (codes ">0=" ++ 0 ∷ 1 ∷ codes "a?zz")) ≡ Some (Malformed Truncated 30)
unfolding computing
cut_ignored_line = refl
