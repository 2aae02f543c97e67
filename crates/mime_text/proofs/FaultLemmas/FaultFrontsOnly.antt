-- After a whole front of a line, what fails next fails the line.
use Rattle.std.proofs.Common.{◌≡◌, ℕ, false, eqb, ltb, leb, List, [], ◌∷◌, ◌++◌, length, Option, Result, Ok, Err, refl, sym, ap, ◌∙◌}
use Rattle.std.proofs.Common.{append_assoc, arith}
use Rattle.std.proofs.lemmas.Bool.{le-ltb, lt-leb, cond-false}
use Rattle.mime_base.specs.Magic.{PlainLine, line_from}
use Rattle.mime_text.specs.declared.magic.fault.Fault.{Fault}
use Rattle.mime_text.specs.Magic.Entries.{PlainEntry}
use Rattle.mime_text.specs.Magic.Reading.{◌>>=◌, number_at, indent_at, start_at, sized_at, mask_at, word_at, range_at, body_at, end_at}
use Rattle.mime_text.specs.Magic.Reading.{line_at}
use Rattle.mime_text.specs.Magic.Text.{IsOptional}
use Rattle.mime_text.specs.Magic.FaultTable.{IsToIndent, IsToStart, IsToValue, IsToMask, IsToWord, IsBeforeNumber, before_start}
use Rattle.mime_text.specs.Magic.FaultTable.{before_word, before_range}
use Rattle.mime_text.proofs.MagicLemmas.OptionsFound.{Passes, PassesMask}
use Rattle.mime_text.proofs.MagicLemmas.PartsOnly.{start_only, indent_only, value_only}
use Rattle.mime_text.proofs.MagicLemmas.OptionsOnly.{mask_only, word_only}
use Rattle.mime_text.proofs.FaultLemmas.FaultSteps.{bind_fails, bind_to}

-- after the word
abbrev pub after_word : ℕ → List ℕ → Option (List ℕ) → ℕ → List ℕ → Result (PlainLine × List ℕ) Fault
after_word start value mask word tail = range_at tail >>= λ range. Ok (line_from start range.0 word value mask, range.1)

-- after the mask
abbrev pub after_mask : ℕ → List ℕ → Option (List ℕ) → List ℕ → Result (PlainLine × List ℕ) Fault
after_mask start value mask tail = word_at (length value) tail >>= λ word. after_word start value mask word.0 word.1

-- after the value
abbrev pub after_value : ℕ → List ℕ → List ℕ → Result (PlainLine × List ℕ) Fault
after_value start value tail = mask_at (length value) tail >>= λ mask. after_mask start value mask.0 mask.1

-- after the start
abbrev pub after_start : ℕ → List ℕ → Result (PlainLine × List ℕ) Fault
after_start start tail = sized_at tail >>= λ value. after_value start value.0 value.1

-- the rest of the line after its parts
abbrev pub after_body : ℕ → ℕ → PlainLine × List ℕ → Result (PlainEntry × List ℕ) Fault
after_body left depth body = end_at left body.0 body.1 >>= λ role. Ok (record { indent = depth; role = role.0 }, role.1)

-- the parts fail so, or the end after them
abbrev pub FailsSo : ℕ → Fault → Result (PlainLine × List ℕ) Fault → Type 0
FailsSo left f parts = (depth : ℕ) → (parts >>= after_body left depth) ≡ Err f

-- parts that fail
pub fail_so : (left : ℕ) (f : Fault) (parts : Result (PlainLine × List ℕ) Fault) → parts ≡ Err f → FailsSo left f parts
fail_so left f parts e depth = bind_fails parts (after_body left depth) f e

-- a part that goes well
step : {A : Type 0} (left : ℕ) (f : Fault) (r : Result A Fault) (x : A) (s : A → Result (PlainLine × List ℕ) Fault) → r ≡ Ok x
    → FailsSo left f (s x) → FailsSo left f (r >>= s)
step left f r x s e h depth = ap (λ (t : Result _ Fault). (t >>= s) >>= after_body left depth) e ∙ h depth

-- ---- after each part

-- a part moves from the front
ungrown : (before part tail : List ℕ) (front : List ℕ) → front ≡ before ++ part → front ++ tail ≡ before ++ (part ++ tail)
ungrown before part tail front whole = ap (λ (t : List ℕ). t ++ tail) whole ∙ append_assoc before part tail

-- after the indent
pub indent_then : (limit : ℕ) (front : List ℕ) → IsToIndent limit front → (tail : List ℕ) (f : Fault)
    → FailsSo (length (front ++ tail)) f (body_at tail) → line_at limit (front ++ tail) ≡ Err f
unfolding line_at
indent_then limit front i tail f h =
    let whole : front ++ tail ≡ i.indent ++ 62 ∷ tail = ungrown i.indent (62 ∷ []) tail front i.whole in
    bind_to (indent_at (front ++ tail)) (i.depth, tail) _ (Err f) (ap indent_at whole ∙ indent_only i.indent i.depth tail i.indent_is)
    (cond-false (ltb limit i.depth) _ _ (le-ltb limit i.depth i.allowed) ∙ cond-false (leb 64 i.depth) _ _ (lt-leb 64 i.depth i.shallow)
    ∙ h i.depth)

-- after the start
pub start_then : (limit : ℕ) (front : List ℕ) → IsToStart limit front → (tail : List ℕ) (f : Fault)
    → ((left start : ℕ) → FailsSo left f (after_start start tail)) → line_at limit (front ++ tail) ≡ Err f
unfolding body_at
start_then limit front s tail f h =
    let rest : List ℕ = s.start ++ 61 ∷ tail in
    let whole : front ++ tail ≡ s.before ++ rest =
    ungrown s.before (s.start ++ 61 ∷ []) tail front s.whole ∙ ap (λ (t : List ℕ). s.before ++ t) (append_assoc s.start (61 ∷ []) tail) in
    let left : ℕ = length (s.before ++ rest) in
    ap (line_at limit) whole ∙ indent_then limit s.before s.before_is rest f
    (step left f (start_at rest) (s.n, tail) (λ start. after_start start.0 start.1) (start_only s.start s.n tail s.start_is) (h left s.n))

-- after the value
pub value_then : (limit size : ℕ) (front : List ℕ) → IsToValue limit size front → (tail : List ℕ) (f : Fault)
    → ((left start : ℕ) (value : List ℕ) → length value ≡ size → FailsSo left f (after_value start value tail))
    → line_at limit (front ++ tail) ≡ Err f
value_then limit size front v tail f h =
    let rest : List ℕ = v.high ∷ v.low ∷ (v.value ++ tail) in
    ap (line_at limit) (ungrown v.before (v.high ∷ v.low ∷ v.value) tail front v.whole)
    ∙ start_then limit v.before v.before_is rest f
    (λ left start. step left f (sized_at rest) (v.value, tail) (λ value. after_value start value.0 value.1)
    (value_only v.high v.low v.value tail (v.size_is ∙ sym v.length_is)) (h left start v.value v.size_is))

-- the next byte, if there is one, is not this
abbrev pub Avoids : ℕ → List ℕ → Type 0
Avoids mark [] = Unit {0}
Avoids mark (b ∷ rest) = eqb b mark ≡ false

-- where no `&` comes next, a mask ends
mask_ends : (text tail : List ℕ) → Avoids 38 tail → PassesMask text tail
mask_ends text [] avoids = tt
mask_ends [] (b ∷ tail) avoids = avoids
mask_ends (t ∷ text) (b ∷ tail) avoids = tt

-- after the mask
pub mask_then : (limit size : ℕ) (front : List ℕ) → IsToMask limit size front → (tail : List ℕ) (f : Fault) → Avoids 38 tail
    → ((left start : ℕ) (value : List ℕ) (mask : Option (List ℕ)) → length value ≡ size
    → FailsSo left f (after_mask start value mask tail)) → line_at limit (front ++ tail) ≡ Err f
mask_then limit size front m tail f avoids h =
    let rest : List ℕ = m.mask ++ tail in
    ap (line_at limit) (ungrown m.before m.mask tail front m.whole)
    ∙ value_then limit size m.before m.before_is rest f
    (λ left start value same. step left f (mask_at (length value) rest) (m.bytes, tail) (λ mask. after_mask start value mask.0 mask.1)
    (ap (λ (n : ℕ). mask_at n rest) same ∙ mask_only size m.mask m.bytes tail m.mask_is (mask_ends m.mask tail avoids))
    (h left start value m.bytes same))

-- where a `+` comes next, a word ends
word_ends : (word rest : List ℕ) → Passes 126 word (43 ∷ rest)
word_ends [] rest = refl
word_ends (w ∷ word) rest = refl

-- and it begins no mask
word_avoids : (word rest : List ℕ) (n : ℕ) → IsOptional 126 word n → Avoids 38 (word ++ 43 ∷ rest)
word_avoids [] rest n is = refl
word_avoids (w ∷ word) rest n is = ap (λ (k : ℕ). eqb k 38) is.0

-- after the word
pub word_then : (limit size : ℕ) (front : List ℕ) → IsToWord limit size front → (rest : List ℕ) (f : Fault) → number_at rest ≡ Err f
    → line_at limit (front ++ 43 ∷ rest) ≡ Err f
unfolding range_at
word_then limit size front w rest f e =
    let tail : List ℕ = w.word ++ 43 ∷ rest in
    ap (line_at limit) (ungrown w.before w.word (43 ∷ rest) front w.whole)
    ∙ mask_then limit size w.before w.before_is tail f (word_avoids w.word rest w.n w.word_is)
    (λ left start value mask same. step left f (word_at (length value) tail) (w.n, 43 ∷ rest)
    (λ word. after_word start value mask word.0 word.1)
    (ap (λ (n : ℕ). word_at n tail) same ∙ word_only size w.word w.n (43 ∷ rest) w.word_is w.fits (word_ends w.word rest) (omega arith))
    (fail_so left f (after_word start value mask w.n (43 ∷ rest)) (bind_fails (range_at (43 ∷ rest)) _ f e)))

-- a number that fails where one has to stand
pub number_then : (limit : ℕ) (front : List ℕ) → IsBeforeNumber limit front → (rest : List ℕ) (f : Fault) → number_at rest ≡ Err f
    → line_at limit (front ++ rest) ≡ Err f
unfolding body_at start_at word_at
number_then limit front (before_start i) rest f e =
    indent_then limit front i rest f
    (fail_so (length (front ++ rest)) f (body_at rest) (bind_fails (start_at rest) _ f (bind_fails (number_at rest) _ f e)))
number_then limit front (before_word size before whole m) rest f e =
    ap (line_at limit) (ungrown before (126 ∷ []) rest front whole)
    ∙ mask_then limit size before m (126 ∷ rest) f refl
    (λ left start value mask same. fail_so left f (after_mask start value mask (126 ∷ rest))
    (bind_fails (word_at (length value) (126 ∷ rest)) _ f (bind_fails (number_at rest) _ f e)))
number_then limit front (before_range size before whole w) rest f e =
    ap (line_at limit) (ungrown before (43 ∷ []) rest front whole) ∙ word_then limit size before w rest f e
