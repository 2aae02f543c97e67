-- Texts that stand are read, and what is read stands.
use Rattle.std.proofs.Common.{◌≡◌, ℕ, zero, suc, ◌+◌, ◌<◌, ◌==◌, ◌-◌, nat_lt, min, Bool, true, false, cond, List, []}
use Rattle.std.proofs.Common.{◌∷◌, ◌++◌, length, take, drop, Ok, Err, refl, sym, ap, ◌∙◌, arith, append_assoc}
use Rattle.std.proofs.Common.{length-append, length-drop}
use Rattle.std.proofs.lemmas.Bool.{eq-eqb, eqb-true, lt-ltb, ltb-true, ne_eqb}
use Rattle.std.proofs.lemmas.List.{length-take, take-append-drop}
use Rattle.mime_base.specs.Cache.Bytes.{Stands}
use Rattle.mime_base.specs.Cache.Texts.{HasNoZero, IsText, before_zero, ended, front, text_at, text_cost, text_in, unended}
use Rattle.mime_base.proofs.CacheLemmas.Standing.{Stands-dropped, Stands-more, drop-standing}

-- what stands before a zero has none
no_zero-before : (bytes : List ℕ) → HasNoZero (before_zero bytes)
no_zero-before [] = tt
no_zero-before (b ∷ bytes) = grown (b == 0) refl (no_zero-before bytes)
  where
    grown : (test : Bool) → (b == 0) ≡ test → HasNoZero (before_zero bytes)
        → HasNoZero (cond test [] (b ∷ before_zero bytes))
    grown true is rest = tt
    grown false is rest = (λ e. absurd (cc (eq-eqb b 0 e)), rest)

-- a text with its zero among that many bytes is what stands before their first zero
before_zero-written : (room : ℕ) (text rest : List ℕ) → length text < room → HasNoZero text
    → before_zero (take room (text ++ 0 ∷ rest)) ≡ text
before_zero-written zero text rest short none = absurd (omega arith)
before_zero-written (suc room) [] rest short none = refl
before_zero-written (suc room) (b ∷ text) rest short none =
    rw (ne_eqb b 0 none.0, before_zero-written room text rest (omega arith) none.1) refl

-- bytes that have a zero are what stands before it, the zero, and more
zero_behind : (bytes : List ℕ) → length (before_zero bytes) < length bytes
    → (more : List ℕ) × (bytes ≡ before_zero bytes ++ 0 ∷ more)
zero_behind [] shorter = absurd (omega arith)
zero_behind (b ∷ bytes) shorter = split (b == 0) refl shorter (λ h. zero_behind bytes h)
  where
    split : (test : Bool) → (b == 0) ≡ test → length (cond test [] (b ∷ before_zero bytes)) < suc (length bytes)
        → (length (before_zero bytes) < length bytes → (more : List ℕ) × (bytes ≡ before_zero bytes ++ 0 ∷ more))
        → (more : List ℕ) × (b ∷ bytes ≡ cond test [] (b ∷ before_zero bytes) ++ 0 ∷ more)
    split true is less rest = let zero_here = eqb-true b 0 is in (bytes, rw zero_here refl)
    split false is less rest = let r = rest (omega arith) in (r.0, ap (λ xs. b ∷ xs) r.1)

-- what a test tells of what it chose
chose : {X Y : Type 0} (test : Bool) (x z : X) (y : Y)
    → cond test (Ok x) (Err y) ≡ Ok z → (test ≡ true) × (x ≡ z)
chose true x z y e = (refl, cc)
chose false x z y e = absurd cc

-- a text that is written among that many bytes is read
text_in-written : (room at : ℕ) (text rest : List ℕ) → length text < room → HasNoZero text
    → text_in room at (take room (text ++ 0 ∷ rest)) ≡ Ok text
text_in-written room at text rest short none =
    let bytes = take room (text ++ 0 ∷ rest) in
    let is = before_zero-written room text rest short none in
    let size : length bytes ≡ min room (length text + suc (length rest)) =
    length-take room (text ++ 0 ∷ rest) ∙ ap (min room) (length-append text (0 ∷ rest)) in
    let less : length (before_zero bytes) < length bytes = omega (arith, ap length is) in
    rw (lt-ltb (length (before_zero bytes)) (length bytes) less) (ap Ok is)

-- a text that stands is read
pub text_at-standing : (c : List ℕ) (at : ℕ) (text : List ℕ) → IsText text → Stands c at (ended text)
    → text_at c at ≡ Ok text
unfolding text_at
text_at-standing c at text is s =
    ap (λ bytes. text_in 256 at (take 256 bytes))
    (drop-standing c at (ended text) s ∙ append_assoc text (0 ∷ []) s.back)
    ∙ text_in-written 256 at text s.back is.short is.no_zero

module _ (room : ℕ) (c : List ℕ) (at : ℕ) where
  -- the bytes that are looked at
  abbrev bytes : List ℕ
  bytes = front room c at

  -- they are as many as there is room for, or as there are
  size : length bytes ≡ min room (length c - at)
  size = length-take room (drop at c) ∙ ap (min room) (length-drop at c)

  -- what is read stands, with its zero
  record Read (text : List ℕ) : Type 0 where
    no_zero : HasNoZero text
    short : length text < room
    stands : Stands c at (ended text)
    cost : min (length (before_zero bytes) + 1) (length bytes) ≡ length text + 1

  -- a text that is read stands there with its zero
  read : (text : List ℕ) → text_in room at bytes ≡ Ok text → Read text
  read text e =
      let r = chose (nat_lt (length (before_zero bytes)) (length bytes)) (before_zero bytes) text
      (unended room at bytes) e in
      let less = ltb-true (length (before_zero bytes)) (length bytes) r.0 in
      let behind = zero_behind bytes less in
      let all : drop at c ≡ ended (before_zero bytes) ++ (behind.0 ++ drop room (drop at c)) =
      sym (take-append-drop room (drop at c)) ∙ ap (λ xs. xs ++ drop room (drop at c)) behind.1
      ∙ append_assoc (before_zero bytes) (0 ∷ behind.0) (drop room (drop at c))
      ∙ sym (append_assoc (before_zero bytes) (0 ∷ []) (behind.0 ++ drop room (drop at c))) in
      rw (← r.1) (record {
        no_zero = no_zero-before bytes;
        short = omega (arith, size);
        stands = Stands-dropped c at (ended (before_zero bytes)) _ (omega (arith, size)) all;
        cost = omega arith;
      })

-- the same of a text of a cache
pub text_at-read : (c : List ℕ) (at : ℕ) (text : List ℕ) → text_at c at ≡ Ok text
    → IsText text × Stands c at (ended text) × (text_cost c at ≡ length text + 1)
unfolding text_at text_cost
text_at-read c at text e =
    let r = read 256 c at text e in
    (record { no_zero = r.no_zero; short = r.short }, r.stands, r.cost)

-- what is read stays while more is appended
pub text_at-more : (c more : List ℕ) (at : ℕ) (text : List ℕ) → text_at c at ≡ Ok text
    → text_at (c ++ more) at ≡ Ok text
text_at-more c more at text e =
    let r = text_at-read c at text e in
    text_at-standing (c ++ more) at text r.0 (Stands-more c more at (ended text) r.1)
