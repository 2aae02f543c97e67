-- Mask, word and range of a line: what is spelled so is read.
use Rattle.std.proofs.Common.{◌≡◌, ℕ, ◌<◌, ◌||◌, true, false, eqb, List, [], ◌∷◌, ◌++◌, length, Option, Some, None, Ok, refl, sym, ap, ◌∙◌}
use Rattle.std.proofs.Common.{arith}
use Rattle.std.proofs.lemmas.Bool.{or_parts, cond-true, cond-false}
use Rattle.mime_base.specs.Magic.{fits_word}
use Rattle.mime_text.specs.Magic.Reading.{is_digit, number_at, bytes_at, mask_at, word_at, range_at}
use Rattle.mime_text.specs.Magic.Text.{IsOptional, IsMask, goes_on}
use Rattle.mime_text.proofs.MagicLemmas.Numbers.{number_only}
use Rattle.mime_text.proofs.MagicLemmas.Steps.{bind_on}
use Rattle.mime_text.proofs.MagicLemmas.OptionsFound.{Passes, PassesMask}
use Rattle.mime_text.proofs.MagicLemmas.PartsOnly.{bytes_only}

-- a mask that is spelled so is read, where the rest begins none
pub mask_only : (size : ℕ) (text : List ℕ) (m : Option (List ℕ)) (rest : List ℕ) → IsMask size text m → PassesMask text rest
    → mask_at size (text ++ rest) ≡ Ok (m, rest)
unfolding mask_at
mask_only size [] None [] is passes = refl
mask_only size [] None (b ∷ rest) is passes = cond-false (eqb b 38) _ _ passes
mask_only size (t ∷ text) None rest is passes = absurd cc
mask_only size text (Some m) rest is passes =
    ap (λ (t : List ℕ). mask_at size (t ++ rest)) is.0
    ∙ bind_on (bytes_at size (m ++ rest)) (m, rest) _ (Some m, rest) (bytes_only size m rest is.1) refl

-- a word that is spelled so is read, where the rest begins none
pub word_only : (size : ℕ) (text : List ℕ) (n : ℕ) (rest : List ℕ) → IsOptional 126 text n → fits_word n size ≡ true → Passes 126 text rest
    → 0 < length rest → word_at size (text ++ rest) ≡ Ok (n, rest)
unfolding word_at
word_only size text n [] is fits passes more = absurd (omega (arith, more))
word_only size [] n (b ∷ rest) is fits passes more = cond-false (eqb b 126) _ _ passes ∙ ap (λ (k : ℕ). Ok (k, b ∷ rest)) (sym is)
word_only size (t ∷ text) n (b ∷ rest) is fits passes more =
    ap (λ (k : ℕ). word_at size (k ∷ (text ++ b ∷ rest))) is.0
    ∙ bind_on (number_at (text ++ b ∷ rest)) (n, b ∷ rest) _ (n, b ∷ rest) (number_only text n b rest is.1 passes)
    (cond-true (fits_word n size) _ _ fits)

-- a range that is spelled so is read, where the rest begins none
pub range_only : (text : List ℕ) (n : ℕ) (rest : List ℕ) → IsOptional 43 text n → Passes 43 text rest → 0 < length rest
    → range_at (text ++ rest) ≡ Ok (n, rest)
unfolding range_at
range_only text n [] is passes more = absurd (omega (arith, more))
range_only [] n (b ∷ rest) is passes more = cond-false (eqb b 43) _ _ passes ∙ ap (λ (k : ℕ). Ok (k, b ∷ rest)) (sym is)
range_only (t ∷ text) n (b ∷ rest) is passes more = ap (λ (k : ℕ). range_at (k ∷ (text ++ b ∷ rest))) is.0
    ∙ number_only text n b rest is.1 passes

-- where the next byte goes on with no part, it goes on with no range
pub range_passes : (mask word range : List ℕ) (b : ℕ) (tail : List ℕ) → goes_on mask word range b ≡ false → Passes 43 range (b ∷ tail)
range_passes mask word (r ∷ range) b tail ends = ends
range_passes mask (w ∷ word) [] b tail ends = (or_parts (is_digit b) (eqb b 43) ends).1
range_passes (m ∷ mask) [] [] b tail ends = (or_parts (eqb b 126) (eqb b 43) ends).1
range_passes [] [] [] b tail ends = (or_parts (eqb b 126) (eqb b 43) (or_parts (eqb b 38) (eqb b 126 || eqb b 43) ends).1).1

-- nor does what comes after the word go on with it
pub word_passes : (mask word range : List ℕ) (n : ℕ) (b : ℕ) (tail : List ℕ) → goes_on mask word range b ≡ false → IsOptional 43 range n
    → Passes 126 word (range ++ b ∷ tail)
word_passes mask [] (r ∷ range) n b tail ends is = ap (λ (k : ℕ). eqb k 126) is.0
word_passes mask (w ∷ word) (r ∷ range) n b tail ends is = ap (λ (k : ℕ). is_digit k) is.0
word_passes mask (w ∷ word) [] n b tail ends is = (or_parts (is_digit b) (eqb b 43) ends).0
word_passes (m ∷ mask) [] [] n b tail ends is = (or_parts (eqb b 126) (eqb b 43) ends).0
word_passes [] [] [] n b tail ends is = (or_parts (eqb b 126) (eqb b 43) (or_parts (eqb b 38) (eqb b 126 || eqb b 43) ends).1).0

-- a mask that is there ends by its length
any_mask : (m : ℕ) (mask rest : List ℕ) → PassesMask (m ∷ mask) rest
any_mask m mask [] = tt
any_mask m mask (b ∷ rest) = tt

-- nor does what comes after the mask begin one
pub mask_passes : (mask word range : List ℕ) (k n : ℕ) (b : ℕ) (tail : List ℕ) → goes_on mask word range b ≡ false → IsOptional 126 word k
    → IsOptional 43 range n → PassesMask mask (word ++ (range ++ b ∷ tail))
mask_passes (m ∷ mask) word range k n b tail ends isw isr = any_mask m mask (word ++ (range ++ b ∷ tail))
mask_passes [] (w ∷ word) range k n b tail ends isw isr = ap (λ (x : ℕ). eqb x 38) isw.0
mask_passes [] [] (r ∷ range) k n b tail ends isw isr = ap (λ (x : ℕ). eqb x 38) isr.0
mask_passes [] [] [] k n b tail ends isw isr = (or_parts (eqb b 38) (eqb b 126 || eqb b 43) ends).0
