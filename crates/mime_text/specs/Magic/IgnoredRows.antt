-- Ignored lines, deletion markers and the lines below them, with their faults. Each law computes.
use Rattle.std.specs.Prelude.{◌≡◌, [], ◌∷◌, ◌++◌, codes, Some, None, refl}
use Rattle.mime_text.specs.declared.magic.fault.MagicFault.TheVariants.{Malformed}
use Rattle.mime_text.specs.declared.magic.fault.MagicFaultKind.TheVariants.{Truncated, BadNumber, BadWord, BadIndent}
use Rattle.mime_text.specs.Magic.Reading.{magic_fault}
use Rattle.mime_text.specs.Magic.Rows.{computing, section, value_a, ignored_a}

-- an ignored line is not tested for the sum
no_sum : magic_fault (section (codes ">4294967295=" ++ ignored_a)) ≡ None
unfolding computing
no_sum = refl

-- the same line, kept, is
sum : magic_fault (section (codes ">4294967295=" ++ value_a)) ≡ Some (Malformed BadNumber 21)
unfolding computing
sum = refl

-- a line below an ignored line is tested for the sum
sum_below : magic_fault (section (codes ">0=" ++ ignored_a ++ codes "1>4294967295=" ++ value_a)) ≡ Some (Malformed BadNumber 29)
unfolding computing
sum_below = refl

-- so is a line below a marker
sum_below_marker : magic_fault (section (codes ">0__NOMAGIC__" ++ 10 ∷ codes "1>4294967295=" ++ value_a)) ≡ Some (Malformed BadNumber 35)
unfolding computing
sum_below_marker = refl

-- an ignored line counts as the line before
below_ignored : magic_fault (section (codes ">0=" ++ ignored_a ++ codes "1>0=" ++ ignored_a ++ codes "2>0=" ++ value_a)) ≡ None
unfolding computing
below_ignored = refl

-- and limits the next indent
too_far_below_ignored : magic_fault (section (codes ">0=" ++ ignored_a ++ codes "2>0=" ++ value_a)) ≡ Some (Malformed BadIndent 29)
unfolding computing
too_far_below_ignored = refl

-- so does a marker
too_far_below_marker : magic_fault (section (codes ">0__NOMAGIC__" ++ 10 ∷ codes "2>0=" ++ value_a)) ≡ Some (Malformed BadIndent 35)
unfolding computing
too_far_below_marker = refl

-- a second `&` makes a line ignored
second_mask : magic_fault (section (codes ">0=" ++ 0 ∷ 1 ∷ codes "a&m&" ++ 10 ∷ [])) ≡ None
unfolding computing
second_mask = refl

-- so does `~` after `+`, whatever the word
word_after_range : magic_fault (section (codes ">0=" ++ 0 ∷ 1 ∷ codes "a+1~3" ++ 10 ∷ [])) ≡ None
unfolding computing
word_after_range = refl

-- a word before the unknown byte counts
word_before_unknown : magic_fault (section (codes ">0=" ++ 0 ∷ 1 ∷ codes "a~3?" ++ 10 ∷ [])) ≡ Some (Malformed BadWord 28)
unfolding computing
word_before_unknown = refl

-- so does a range
range_before_unknown : magic_fault (section (codes ">0=" ++ 0 ∷ 1 ∷ codes "a+4294967296?" ++ 10 ∷ [])) ≡ Some (Malformed BadNumber 28)
unfolding computing
range_before_unknown = refl

-- the marker without `=`, spelled wrong
wrong_marker : magic_fault (section (codes ">0__NOMAGIX__" ++ 10 ∷ [])) ≡ Some (Malformed BadNumber 22)
unfolding computing
wrong_marker = refl

-- the marker with `=`, without its newline: a length of 24,415
marker_with_equals_cut : magic_fault (section (codes ">0=__NOMAGIC__")) ≡ Some (Malformed Truncated 35)
unfolding computing
marker_with_equals_cut = refl

-- the marker with a length, without its newline
marker_with_length_cut : magic_fault (section (codes ">0=" ++ 0 ∷ 11 ∷ codes "__NOMAGIC__")) ≡ Some (Malformed Truncated 37)
unfolding computing
marker_with_length_cut = refl

-- and with a byte before its newline: an ignored line
marker_with_length_more : magic_fault (section (codes ">0=" ++ 0 ∷ 11 ∷ codes "__NOMAGIC__x" ++ 10 ∷ [])) ≡ None
unfolding computing
marker_with_length_more = refl

-- a marker after a positive indent is a line
indented_marker : magic_fault (section (codes ">0=" ++ value_a ++ codes "1>0__NOMAGIC__" ++ 10 ∷ [])) ≡ Some (Malformed BadNumber 30)
unfolding computing
indented_marker = refl
