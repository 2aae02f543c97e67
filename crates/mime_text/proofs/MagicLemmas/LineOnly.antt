-- From the start of a line to its range, and a whole line: what is spelled so is read.
use Rattle.std.proofs.Common.{◌≡◌, ℕ, ◌+◌, ◌<◌, eqb, ltb, leb, List, [], ◌∷◌, ◌++◌, length, length-append, Ok, refl, sym, ap, ◌∙◌}
use Rattle.std.proofs.Common.{append_assoc, arith}
use Rattle.std.proofs.lemmas.Bool.{le-ltb, lt-leb, ne_eqb, cond-false}
use Rattle.mime_base.specs.Magic.{PlainLine}
use Rattle.mime_text.specs.Magic.Entries.{PlainRole, kept, ignored, marker, PlainEntry}
use Rattle.mime_text.specs.Magic.Reading.{indent_at, start_at, sized_at, mask_at, word_at, range_at, row_at, end_at, body_at, line_at}
use Rattle.mime_text.specs.Magic.Text.{IsBody, IsEnd, IsLine}
use Rattle.mime_text.proofs.MagicLemmas.Steps.{bind_on}
use Rattle.mime_text.proofs.MagicLemmas.Prefixes.{row_only}
use Rattle.mime_text.proofs.MagicLemmas.PartsOnly.{start_only, indent_only, value_only}
use Rattle.mime_text.proofs.MagicLemmas.OptionsOnly.{mask_only, word_only, range_only, range_passes, word_passes, mask_passes}
use Rattle.mime_text.proofs.MagicLemmas.BodyFound.{regroup_options, regroup_body}
use Rattle.mime_text.proofs.MagicLemmas.LineFound.{regroup_line}

-- the end of a line that is spelled so is read
pub end_only : (left : ℕ) (own : PlainLine) (b : ℕ) (text : List ℕ) (role : PlainRole) (rest : List ℕ) → IsEnd own b text role
    → end_at left own (b ∷ (text ++ rest)) ≡ Ok (role, rest)
unfolding end_at
end_only left own b text (kept line) rest is =
    ap (λ (k : ℕ). end_at left own (k ∷ (text ++ rest))) is.1 ∙ ap (λ (t : List ℕ). end_at left own (10 ∷ (t ++ rest))) is.2
    ∙ cond-false (leb 4294967296 (own.start + own.range + length own.value)) _ _ (lt-leb 4294967296 _ is.3)
    ∙ ap (λ (l : PlainLine). Ok (kept l, rest)) (sym is.0)
end_only left own b text ignored rest is =
    let s : row_at (text ++ rest) ≡ Ok (is.1.0, rest) =
    ap row_at (ap (λ (t : List ℕ). t ++ rest) is.1.1 ∙ append_assoc is.1.0 (10 ∷ []) rest) ∙ row_only is.1.0 rest is.1.2 in
    cond-false (eqb b 10) _ _ (ne_eqb b 10 is.0) ∙ bind_on (row_at (text ++ rest)) (is.1.0, rest) _ (ignored, rest) s refl
end_only left own b text marker rest is = absurd is

-- a byte after a text
more_after : (text : List ℕ) (b : ℕ) (tail : List ℕ) → 0 < length (text ++ b ∷ tail)
more_after text b tail = omega (arith, length-append text (b ∷ tail))

-- what is spelled so from the start of a line to its range is read
pub body_only : (text : List ℕ) (own : PlainLine) (b : ℕ) (tail : List ℕ) → IsBody text own b
    → body_at (text ++ b ∷ tail) ≡ Ok (own, b ∷ tail)
unfolding body_at
body_only text own b tail body =
    let o = body.options_are in
    let r1 : List ℕ = b ∷ tail in
    let w1 : List ℕ = o.range ++ r1 in
    let m1 : List ℕ = o.word ++ w1 in
    let v1 : List ℕ = o.mask ++ m1 in
    let s1 : List ℕ = body.high ∷ body.low ∷ (own.value ++ v1) in
    let options : body.options ++ r1 ≡ v1 = ap (λ (t : List ℕ). t ++ r1) o.whole ∙ regroup_options o.mask o.word o.range r1 in
    let whole : text ++ r1 ≡ body.start ++ (61 ∷ s1) =
    ap (λ (t : List ℕ). t ++ r1) body.whole ∙ regroup_body body.start own.value body.options r1 body.high body.low
    ∙ ap (λ (t : List ℕ). body.start ++ (61 ∷ body.high ∷ body.low ∷ (own.value ++ t))) options in
    ap body_at whole
    ∙ bind_on (start_at (body.start ++ 61 ∷ s1)) (own.start, s1) _ (own, r1) (start_only body.start own.start s1 body.start_is)
    (bind_on (sized_at s1) (own.value, v1) _ (own, r1) (value_only body.high body.low own.value v1 body.size)
    (bind_on (mask_at (length own.value) v1) (own.mask, m1) _ (own, r1)
    (mask_only (length own.value) o.mask own.mask m1 o.mask_is
    (mask_passes o.mask o.word o.range own.word own.range b tail o.ends o.word_is o.range_is))
    (bind_on (word_at (length own.value) m1) (own.word, w1) _ (own, r1)
    (word_only (length own.value) o.word own.word w1 o.word_is o.word_fits
    (word_passes o.mask o.word o.range own.range b tail o.ends o.range_is) (more_after o.range b tail))
    (bind_on (range_at w1) (own.range, r1) _ (own, r1)
    (range_only o.range own.range r1 o.range_is (range_passes o.mask o.word o.range b tail o.ends) (omega arith)) refl))))

-- a line that is spelled so is read
pub line_only : (limit : ℕ) (text : List ℕ) (line : PlainEntry) (rest : List ℕ) → IsLine limit text line
    → line_at limit (text ++ rest) ≡ Ok (line, rest)
unfolding line_at
line_only limit text line rest is =
    let r = is.rest_is in
    let tail : List ℕ = r.body ++ (r.first ∷ (r.end ++ rest)) in
    let whole : text ++ rest ≡ is.indent ++ 62 ∷ tail =
    ap (λ (t : List ℕ). t ++ rest) (is.whole ∙ ap (λ (t : List ℕ). is.indent ++ 62 ∷ t) r.whole)
    ∙ regroup_line is.indent r.body r.end rest r.first in
    bind_on (indent_at (text ++ rest)) (line.indent, tail) _ (line, rest)
    (ap indent_at whole ∙ indent_only is.indent line.indent tail is.indent_is)
    (cond-false (ltb limit line.indent) _ _ (le-ltb limit line.indent is.allowed)
    ∙ cond-false (leb 64 line.indent) _ _ (lt-leb 64 line.indent is.shallow)
    ∙ bind_on (body_at tail) (r.own, r.first ∷ (r.end ++ rest)) _ (line, rest) (body_only r.body r.own r.first (r.end ++ rest) r.body_is)
    (bind_on (end_at (length (text ++ rest)) r.own (r.first ∷ (r.end ++ rest))) (line.role, rest) _ (line, rest)
    (end_only (length (text ++ rest)) r.own r.first r.end line.role rest r.end_is) refl))
