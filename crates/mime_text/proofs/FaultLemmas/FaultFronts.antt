-- The whole front of a line grows by each part that goes well.
use Rattle.std.proofs.Common.{◌≡◌, ℕ, eqb, cond, List, [], ◌∷◌, ◌++◌, length, Option, Ok, Err, refl, sym, ap, subst, ◌∙◌, append_assoc}
use Rattle.std.proofs.Common.{arith, inl, inr}
use Rattle.std.proofs.lemmas.List.{append-nil}
use Rattle.mime_base.specs.Magic.{PlainLine, fits_word}
use Rattle.mime_text.specs.declared.magic.fault.MagicFaultKind.TheVariants.{BadWord}
use Rattle.mime_text.specs.Magic.Reading.{◌>>=◌, fault_at, number_at, start_at, sized_at, mask_at, word_at, range_at, body_at}
use Rattle.mime_text.specs.Magic.FaultTable.{IsToIndent, IsToStart, IsToValue, IsToMask, IsToWord}
use Rattle.mime_text.proofs.MagicLemmas.Steps.{bind_ok, chosen, ok_is}
use Rattle.mime_text.proofs.MagicLemmas.Numbers.{number_found}
use Rattle.mime_text.proofs.MagicLemmas.PartsFound.{start_found, value_found}
use Rattle.mime_text.proofs.MagicLemmas.OptionsFound.{mask_found, word_found}

-- a part moves to the front
pub grown : (line before tail part rest : List ℕ) → line ≡ before ++ tail → tail ≡ part ++ rest → line ≡ (before ++ part) ++ rest
grown line before tail part rest is parts = is ∙ ap (λ (t : List ℕ). before ++ t) parts ∙ sym (append_assoc before part rest)

-- a start and its `=`
pub grow_start : (limit : ℕ) (line before tail : List ℕ) (x : ℕ × List ℕ) → line ≡ before ++ tail → IsToIndent limit before
    → start_at tail ≡ Ok x → (front : List ℕ) × (line ≡ front ++ x.1) × IsToStart limit front
grow_start limit line before tail x is i e =
    let s = start_found tail x e in
    let parts : tail ≡ (s.0 ++ 61 ∷ []) ++ x.1 = s.1 ∙ sym (append_assoc s.0 (61 ∷ []) x.1) in (
      before ++ (s.0 ++ 61 ∷ []),
      grown line before tail (s.0 ++ 61 ∷ []) x.1 is parts,
      record { before = before; start = s.0; n = x.0; whole = refl; before_is = i; start_is = s.2 },
    )

-- a value with its length
pub grow_value : (limit : ℕ) (line before tail : List ℕ) (x : List ℕ × List ℕ) → line ≡ before ++ tail → IsToStart limit before
    → sized_at tail ≡ Ok x → (front : List ℕ) × (line ≡ front ++ x.1) × IsToValue limit (length x.0) front
grow_value limit line before tail x is s e =
    let v = value_found tail x e in (
      before ++ (v.0 ∷ v.1 ∷ x.0),
      grown line before tail (v.0 ∷ v.1 ∷ x.0) x.1 is v.2,
      record { before = before; high = v.0; low = v.1; value = x.0; whole = refl; before_is = s; size_is = refl; length_is = sym v.3 },
    )

-- a mask, or none
pub grow_mask : (limit size : ℕ) (line before tail : List ℕ) (x : Option (List ℕ) × List ℕ) → line ≡ before ++ tail
    → IsToValue limit size before → mask_at size tail ≡ Ok x → (front : List ℕ) × (line ≡ front ++ x.1) × IsToMask limit size front
grow_mask limit size line before tail x is v e =
    let m = mask_found size tail x e in (
      before ++ m.text,
      grown line before tail m.text x.1 is m.parts,
      record { before = before; mask = m.text; bytes = x.0; whole = refl; before_is = v; mask_is = m.is },
    )

-- a word, or none
pub grow_word : (limit size : ℕ) (line before tail : List ℕ) (x : ℕ × List ℕ) → line ≡ before ++ tail → IsToMask limit size before
    → word_at size tail ≡ Ok x → (front : List ℕ) × (line ≡ front ++ x.1) × IsToWord limit size front
grow_word limit size line before tail x is m e =
    let w = word_found size tail x e in (
      before ++ w.0.text,
      grown line before tail w.0.text x.1 is w.0.parts,
      record { before = before; word = w.0.text; n = x.0; whole = refl; before_is = m; word_is = w.0.is; fits = w.1 },
    )

-- ---- where nothing is left after all parts

-- a number has something after it
number_more : (bytes : List ℕ) (x : ℕ × List ℕ) → number_at bytes ≡ Ok x → x.1 ≡ [] → ⊥
number_more bytes x e none = let k = number_found bytes x e in omega (arith, k.more, ap length none)

-- so there is no range
range_none : (bytes : List ℕ) (x : ℕ × List ℕ) → range_at bytes ≡ Ok x → x.1 ≡ [] → bytes ≡ []
unfolding range_at
range_none [] x e none = refl
range_none (b ∷ bytes) x e none =
    elim (chosen (eqb b 43) (number_at bytes) (Ok (1, b ∷ bytes)) (Ok x) e) [
      | inl h ↦ absurd (number_more bytes x h.1 none)
      | inr h ↦ let same : b ∷ bytes ≡ x.1 = ap (λ (y : ℕ × List ℕ). y.1) (ok_is (1, b ∷ bytes) x h.1) in same ∙ none
    ]

-- and no word
word_none : (size : ℕ) (bytes : List ℕ) (x : ℕ × List ℕ) → word_at size bytes ≡ Ok x → x.1 ≡ [] → bytes ≡ []
unfolding word_at
word_none size [] x e none = refl
word_none size (b ∷ bytes) x e none =
    elim (chosen (eqb b 126) (number_at bytes >>= λ n. cond (fits_word n.0 size) (Ok n) (Err (fault_at BadWord (length bytes))))
    (Ok (1, b ∷ bytes)) (Ok x) e) [
      | inl h ↦
          let a = bind_ok (number_at bytes) (λ n. cond (fits_word n.0 size) (Ok n) (Err (fault_at BadWord (length bytes)))) x h.1 in
          elim (chosen (fits_word a.0.0 size) (Ok a.0) (Err (fault_at BadWord (length bytes))) (Ok x) a.2) [
            | inl t ↦
                let same : a.0.1 ≡ x.1 = ap (λ (y : ℕ × List ℕ). y.1) (ok_is a.0 x t.1) in absurd (number_more bytes a.0 a.1 (same ∙ none))
            | inr t ↦ let no = t.1 in absurd cc
          ]
      | inr h ↦ let same : b ∷ bytes ≡ x.1 = ap (λ (y : ℕ × List ℕ). y.1) (ok_is (1, b ∷ bytes) x h.1) in same ∙ none
    ]

-- a line that ends after its parts ends after its mask
pub ends_at_mask : (limit : ℕ) (line before tail : List ℕ) (x : PlainLine × List ℕ) → line ≡ before ++ tail → IsToIndent limit before
    → body_at tail ≡ Ok x → x.1 ≡ [] → (size : ℕ) × IsToMask limit size line
unfolding body_at
ends_at_mask limit line before tail x is i e none =
    let a = bind_ok (start_at tail) _ x e in
    let b = bind_ok (sized_at a.0.1) _ x a.2 in
    let c = bind_ok (mask_at (length b.0.0) b.0.1) _ x b.2 in
    let d = bind_ok (word_at (length b.0.0) c.0.1) _ x c.2 in
    let f =
    bind_ok (range_at d.0.1) (λ range. Ok
    (record { start = a.0.0; range = range.0; word = d.0.0; value = b.0.0; mask = c.0.0 }, range.1)) x d.2 in
    let start = grow_start limit line before tail a.0 is i a.1 in
    let value = grow_value limit line start.0 a.0.1 b.0 start.1 start.2 b.1 in
    let mask = grow_mask limit (length b.0.0) line value.0 b.0.1 c.0 value.1 value.2 c.1 in
    let last : f.0.1 ≡ x.1 =
    ap (λ (y : PlainLine × List ℕ). y.1)
    (ok_is (record { start = a.0.0; range = f.0.0; word = d.0.0; value = b.0.0; mask = c.0.0 }, f.0.1) x f.2) in
    let no_range : d.0.1 ≡ [] = range_none d.0.1 f.0 f.1 (last ∙ none) in
    let no_word : c.0.1 ≡ [] = word_none (length b.0.0) c.0.1 d.0 d.1 no_range in
    let all : line ≡ mask.0 = mask.1 ∙ ap (λ (t : List ℕ). mask.0 ++ t) no_word ∙ append-nil mask.0 in
    (length b.0.0, subst (λ (t : List ℕ). IsToMask limit (length b.0.0) t) (sym all) mask.2)
