-- Numbers of lines on both sides of each limit, with their faults. Each law computes.
use Rattle.std.specs.Prelude.{◌≡◌, [], ◌∷◌, ◌++◌, codes, Some, None, refl}
use Rattle.mime_text.specs.declared.magic.fault.MagicFault.TheVariants.{Malformed}
use Rattle.mime_text.specs.declared.magic.fault.MagicFaultKind.TheVariants.{BadNumber, BadWord, BadIndent}
use Rattle.mime_text.specs.Magic.Reading.{magic_fault}
use Rattle.mime_text.specs.Magic.Rows.{computing, section}

-- a start with another byte than `=` after it
no_equals : magic_fault (section (codes ">0-" ++ 0 ∷ 1 ∷ codes "a" ++ 10 ∷ [])) ≡ Some (Malformed BadNumber 22)
unfolding computing
no_equals = refl

-- zeros before a start count for nothing
start_zeros : magic_fault (section (codes ">00000000000000=" ++ 0 ∷ 1 ∷ codes "a" ++ 10 ∷ [])) ≡ None
unfolding computing
start_zeros = refl

-- a start that is one too large
large_start : magic_fault (section (codes ">4294967296=" ++ 0 ∷ 0 ∷ 10 ∷ [])) ≡ Some (Malformed BadNumber 22)
unfolding computing
large_start = refl

-- the greatest start passes as a number, but not the sum with the range 1
greatest_start : magic_fault (section (codes ">4294967295=" ++ 0 ∷ 0 ∷ 10 ∷ [])) ≡ Some (Malformed BadNumber 21)
unfolding computing
greatest_start = refl

-- the greatest start that passes both
start_in_sum : magic_fault (section (codes ">4294967294=" ++ 0 ∷ 0 ∷ 10 ∷ [])) ≡ None
unfolding computing
start_in_sum = refl

-- `+` without a number
no_range : magic_fault (section (codes ">0=" ++ 0 ∷ 1 ∷ codes "a+" ++ 10 ∷ [])) ≡ Some (Malformed BadNumber 28)
unfolding computing
no_range = refl

-- a range that is one too large
large_range : magic_fault (section (codes ">0=" ++ 0 ∷ 1 ∷ codes "a+4294967296" ++ 10 ∷ [])) ≡ Some (Malformed BadNumber 28)
unfolding computing
large_range = refl

-- the greatest range passes as a number, but not the sum with the length 1
greatest_range : magic_fault (section (codes ">0=" ++ 0 ∷ 1 ∷ codes "a+4294967295" ++ 10 ∷ [])) ≡ Some (Malformed BadNumber 21)
unfolding computing
greatest_range = refl

-- the greatest range that passes both
range_in_sum : magic_fault (section (codes ">0=" ++ 0 ∷ 1 ∷ codes "a+4294967294" ++ 10 ∷ [])) ≡ None
unfolding computing
range_in_sum = refl

-- an indent that is one too large for a number
large_indent : magic_fault (section (codes "4294967296>0=" ++ 0 ∷ 1 ∷ codes "a" ++ 10 ∷ [])) ≡ Some (Malformed BadNumber 21)
unfolding computing
large_indent = refl

-- an indent that passes as a number
greatest_indent : magic_fault (section (codes "4294967295>0=" ++ 0 ∷ 1 ∷ codes "a" ++ 10 ∷ [])) ≡ Some (Malformed BadIndent 21)
unfolding computing
greatest_indent = refl

-- `~` without a number
no_word : magic_fault (section (codes ">0=" ++ 0 ∷ 1 ∷ codes "a~" ++ 10 ∷ [])) ≡ Some (Malformed BadNumber 28)
unfolding computing
no_word = refl

-- a word that is one too large for a number
large_word : magic_fault (section (codes ">0=" ++ 0 ∷ 1 ∷ codes "a~4294967296" ++ 10 ∷ [])) ≡ Some (Malformed BadNumber 28)
unfolding computing
large_word = refl

-- a word that passes as a number
greatest_word : magic_fault (section (codes ">0=" ++ 0 ∷ 1 ∷ codes "a~4294967295" ++ 10 ∷ [])) ≡ Some (Malformed BadWord 28)
unfolding computing
greatest_word = refl

-- the word 0
word_0 : magic_fault (section (codes ">0=" ++ 0 ∷ 1 ∷ codes "a~0" ++ 10 ∷ [])) ≡ Some (Malformed BadWord 28)
unfolding computing
word_0 = refl

-- the word 1
word_1 : magic_fault (section (codes ">0=" ++ 0 ∷ 1 ∷ codes "a~1" ++ 10 ∷ [])) ≡ None
unfolding computing
word_1 = refl

-- the word 2, which divides the length 2
word_2 : magic_fault (section (codes ">0=" ++ 0 ∷ 2 ∷ codes "ab~2" ++ 10 ∷ [])) ≡ None
unfolding computing
word_2 = refl

-- the word 2, which does not divide the length 1
word_2_of_1 : magic_fault (section (codes ">0=" ++ 0 ∷ 1 ∷ codes "a~2" ++ 10 ∷ [])) ≡ Some (Malformed BadWord 28)
unfolding computing
word_2_of_1 = refl

-- the word 3
word_3 : magic_fault (section (codes ">0=" ++ 0 ∷ 3 ∷ codes "abc~3" ++ 10 ∷ [])) ≡ Some (Malformed BadWord 30)
unfolding computing
word_3 = refl

-- the word 4, which divides the length 4
word_4 : magic_fault (section (codes ">0=" ++ 0 ∷ 4 ∷ codes "abcd~4" ++ 10 ∷ [])) ≡ None
unfolding computing
word_4 = refl

-- the word 4, which does not divide the length 2
word_4_of_2 : magic_fault (section (codes ">0=" ++ 0 ∷ 2 ∷ codes "ab~4" ++ 10 ∷ [])) ≡ Some (Malformed BadWord 29)
unfolding computing
word_4_of_2 = refl

-- the word 8
word_8 : magic_fault (section (codes ">0=" ++ 0 ∷ 8 ∷ codes "abcdefgh~8" ++ 10 ∷ [])) ≡ Some (Malformed BadWord 35)
unfolding computing
word_8 = refl

-- the word 4 divides the length 0
word_of_none : magic_fault (section (codes ">0=" ++ 0 ∷ 0 ∷ codes "~4" ++ 10 ∷ [])) ≡ None
unfolding computing
word_of_none = refl
