-- Mask, word and range of a line against the grammar: what is read is spelled so.
use Rattle.std.proofs.Common.{◌≡◌, ℕ, ◌||◌, true, false, eqb, cond, List, [], ◌∷◌, ◌++◌, length, Option, Some, None, Result, Ok, Err, refl}
use Rattle.std.proofs.Common.{ap, subst, ◌∙◌, inl, inr}
use Rattle.std.proofs.lemmas.Bool.{eqb-true, or_from}
use Rattle.mime_text.specs.declared.magic.fault.Fault.{Fault}
use Rattle.mime_text.specs.declared.magic.fault.MagicFaultKind.TheVariants.{BadWord}
use Rattle.mime_base.specs.Magic.{fits_word}
use Rattle.mime_text.specs.Magic.Reading.{◌>>=◌, fault_at, is_digit, number_at, bytes_at, mask_at, word_at, range_at}
use Rattle.mime_text.specs.Magic.Text.{IsOptional, IsMask, goes_on}
use Rattle.mime_text.proofs.MagicLemmas.Steps.{bind_ok, guard_on, chosen, ok_is}
use Rattle.mime_text.proofs.MagicLemmas.Numbers.{Stops, number_found}
use Rattle.mime_text.proofs.MagicLemmas.PartsFound.{bytes_found}

-- after a text of no bytes stands no mark, and after a number no digit
abbrev pub Passes : ℕ → List ℕ → List ℕ → Type 0
Passes mark text [] = Unit {0}
Passes mark [] (b ∷ rest) = eqb b mark ≡ false
Passes mark (t ∷ text) (b ∷ rest) = is_digit b ≡ false

-- after a mask of no bytes stands no `&`
abbrev pub PassesMask : List ℕ → List ℕ → Type 0
PassesMask text [] = Unit {0}
PassesMask [] (b ∷ rest) = eqb b 38 ≡ false
PassesMask (t ∷ text) (b ∷ rest) = Unit {0}

-- the text of a mask, and what comes after it
pub record Masked (size : ℕ) (bytes : List ℕ) (mask : Option (List ℕ)) (rest : List ℕ) : Type 0 where
  pub text : List ℕ
  pub parts : bytes ≡ text ++ rest
  pub is : IsMask size text mask
  pub passes : PassesMask text rest

-- a mask that is there ends by its length
passes_mask : (b : ℕ) (text rest : List ℕ) → PassesMask (b ∷ text) rest
passes_mask b text [] = tt
passes_mask b text (c ∷ rest) = tt

-- no mask
masked_none : (size : ℕ) (bytes : List ℕ) → PassesMask [] bytes → Masked size bytes None bytes
masked_none size bytes passes = record { text = []; parts = refl; is = refl; passes = passes }

-- a mask that is read, or none, is spelled so
pub mask_found : (size : ℕ) (bytes : List ℕ) (x : Option (List ℕ) × List ℕ) → mask_at size bytes ≡ Ok x → Masked size bytes x.0 x.1
unfolding mask_at
mask_found size [] x e = subst (λ (y : Option (List ℕ) × List ℕ). Masked size [] y.0 y.1) (ok_is (None, []) x e) (masked_none size [] tt)
mask_found size (b ∷ bytes) x e =
    elim (chosen (eqb b 38) (bytes_at size bytes >>= λ m. Ok (Some m.0, m.1)) (Ok (None, b ∷ bytes)) (Ok x) e) [
      | inl h ↦
          let is : b ≡ 38 = eqb-true b 38 h.0 in
          let a = bind_ok (bytes_at size bytes) (λ m. Ok (Some m.0, m.1)) x h.1 in
          let m = bytes_found size bytes a.0 a.1 in
          subst (λ (y : Option (List ℕ) × List ℕ). Masked size (b ∷ bytes) y.0 y.1) (ok_is (Some a.0.0, a.0.1) x a.2)
          (record {
            text = 38 ∷ a.0.0;
            parts = ap (λ (k : ℕ). k ∷ bytes) is ∙ ap (λ (t : List ℕ). 38 ∷ t) m.0;
            is = (refl, m.1);
            passes = passes_mask 38 a.0.0 a.0.1;
          })
      | inr h ↦
          subst (λ (y : Option (List ℕ) × List ℕ). Masked size (b ∷ bytes) y.0 y.1) (ok_is (None, b ∷ bytes) x h.1)
          (masked_none size (b ∷ bytes) h.0)
    ]

-- the text of a word or a range, and what comes after it
pub record Optioned (mark : ℕ) (bytes : List ℕ) (n : ℕ) (rest : List ℕ) : Type 0 where
  pub text : List ℕ
  pub parts : bytes ≡ text ++ rest
  pub is : IsOptional mark text n
  pub passes : Passes mark text rest

-- after a number stands no digit
as_passes : (mark b : ℕ) (text rest : List ℕ) → Stops rest → Passes mark (b ∷ text) rest
as_passes mark b text [] stops = tt
as_passes mark b text (c ∷ rest) stops = stops

-- no mark
optioned_none : (mark : ℕ) (bytes : List ℕ) → Passes mark [] bytes → Optioned mark bytes 1 bytes
optioned_none mark bytes other = record { text = []; parts = refl; is = refl; passes = other }

-- the mark and a number
optioned_some : (mark b : ℕ) (bytes : List ℕ) (x : ℕ × List ℕ) → eqb b mark ≡ true → number_at bytes ≡ Ok x
    → Optioned mark (b ∷ bytes) x.0 x.1
optioned_some mark b bytes x same e =
    let is : b ≡ mark = eqb-true b mark same in
    let n = number_found bytes x e in
    record {
      text = mark ∷ n.text;
      parts = ap (λ (k : ℕ). k ∷ bytes) is ∙ ap (λ (t : List ℕ). mark ∷ t) n.parts;
      is = (refl, n.is);
      passes = as_passes mark mark n.text x.1 n.stops;
    }

-- a word with its mark, as it is read
abbrev marked_word : ℕ → List ℕ → Result (ℕ × List ℕ) Fault
marked_word size bytes = number_at bytes >>= λ n. cond (fits_word n.0 size) (Ok n) (Err (fault_at BadWord (length bytes)))

-- the text of a word that fits values of this size, and what comes after it
abbrev pub WordFound : ℕ → List ℕ → ℕ × List ℕ → Type 0
WordFound size bytes x = Optioned 126 bytes x.0 x.1 × (fits_word x.0 size ≡ true)

-- a word that is read, or none, is spelled so
pub word_found : (size : ℕ) (bytes : List ℕ) (x : ℕ × List ℕ) → word_at size bytes ≡ Ok x → WordFound size bytes x
unfolding word_at
word_found size [] x e = subst (WordFound size []) (ok_is (1, []) x e) (optioned_none 126 [] tt, refl)
word_found size (b ∷ bytes) x e =
    elim (chosen (eqb b 126) (marked_word size bytes) (Ok (1, b ∷ bytes)) (Ok x) e) [
      | inl h ↦
          let a = bind_ok (number_at bytes) (λ n. cond (fits_word n.0 size) (Ok n) (Err (fault_at BadWord (length bytes)))) x h.1 in
          let g = guard_on (fits_word a.0.0 size) (fault_at BadWord (length bytes)) (Ok a.0) x a.2 in
          subst (WordFound size (b ∷ bytes)) (ok_is a.0 x g.1) (optioned_some 126 b bytes a.0 h.0 a.1, g.0)
      | inr h ↦ subst (WordFound size (b ∷ bytes)) (ok_is (1, b ∷ bytes) x h.1) (optioned_none 126 (b ∷ bytes) h.0, refl)
    ]

-- a range that is read, or none, is spelled so
pub range_found : (bytes : List ℕ) (x : ℕ × List ℕ) → range_at bytes ≡ Ok x → Optioned 43 bytes x.0 x.1
unfolding range_at
range_found [] x e = subst (λ (y : ℕ × List ℕ). Optioned 43 [] y.0 y.1) (ok_is (1, []) x e) (optioned_none 43 [] tt)
range_found (b ∷ bytes) x e =
    elim (chosen (eqb b 43) (number_at bytes) (Ok (1, b ∷ bytes)) (Ok x) e) [
      | inl h ↦ optioned_some 43 b bytes x h.0 h.1
      | inr h ↦
          subst (λ (y : ℕ × List ℕ). Optioned 43 (b ∷ bytes) y.0 y.1) (ok_is (1, b ∷ bytes) x h.1)
          (optioned_none 43 (b ∷ bytes) h.0)
    ]

-- where each part passes what comes next, the next byte goes on with none of them
pub ends_are : (mask word range : List ℕ) (b : ℕ) (tail : List ℕ) → PassesMask mask (word ++ (range ++ b ∷ tail))
    → Passes 126 word (range ++ b ∷ tail) → Passes 43 range (b ∷ tail) → goes_on mask word range b ≡ false
ends_are mask word (r ∷ range) b tail m w r' = r'
ends_are mask (w ∷ word) [] b tail m p q = or_from (is_digit b) (eqb b 43) p q
ends_are (m ∷ mask) [] [] b tail a p q = or_from (eqb b 126) (eqb b 43) p q
ends_are [] [] [] b tail a p q = or_from (eqb b 38) (eqb b 126 || eqb b 43) a (or_from (eqb b 126) (eqb b 43) p q)
