-- Why bytes are no text, and have no order against a key.
use Rattle.std.proofs.Common.{◌≡◌, ◌≢◌, ◌↔◌, ℕ, suc, ◌+◌, ◌-◌, ◌<◌, ◌≤◌, ◌==◌, nat_eq, nat_lt, min, Bool, true, false}
use Rattle.std.proofs.Common.{cond, List, [], ◌∷◌, length, take, drop, Ok, Err, refl, sym, ap, ◌∙◌, arith, length-drop}
use Rattle.std.proofs.lemmas.Bool.{eq-eqb, eqb-true, le-ltb, ltb-false, ne_eqb}
use Rattle.std.proofs.lemmas.List.{length-take}
use Rattle.std.proofs.lemmas.List.Sums.{common_prefix_len-le}
use Rattle.std.specs.List.{common_prefix_len}
use Rattle.std.specs.Ordering.{nat_cmp}
use Rattle.std.specs.Cmp.Lexicographic.{slice_cmp}
use Rattle.mime_base.specs.Cache.Texts.{HasNoZero, before_zero, front, order_at, order_in, shared, text_at, text_in, unended}
use Rattle.mime_base.specs.declared.cache.byte_fault.ByteFault.{ByteFault}
use Rattle.mime_base.specs.declared.cache.byte_fault.ByteFault.TheVariants.{LongText, OutOfRange}
use Rattle.mime_base.proofs.CacheLemmas.Prefixes.{front_by_prefix, prefix_by_front}
use Rattle.mime_base.proofs.CacheLemmas.Zeros.{length-before_zero}

-- bytes without a zero are all that stands before it
before_zero-none : (bytes : List ℕ) → HasNoZero bytes → before_zero bytes ≡ bytes
before_zero-none [] none = refl
before_zero-none (b ∷ bytes) none = rw (ne_eqb b 0 none.0, before_zero-none bytes none.1) refl

-- bytes that no zero cuts have none
none_if_whole : (bytes : List ℕ) → length bytes ≤ length (before_zero bytes) → HasNoZero bytes
none_if_whole [] whole = tt
none_if_whole (b ∷ bytes) whole = each (b == 0) refl whole (λ h. none_if_whole bytes h)
  where
    each : (test : Bool) → (b == 0) ≡ test → suc (length bytes) ≤ length (cond test [] (b ∷ before_zero bytes))
        → (length bytes ≤ length (before_zero bytes) → HasNoZero bytes) → (b ≢ 0) × HasNoZero bytes
    each true is long rest = absurd (omega arith)
    each false is long rest = (λ e. absurd (cc (eq-eqb b 0 e)), rest (omega arith))

-- what a refusal tells of the test before it
refused : {X Y : Type 0} (test : Bool) (x : X) (y z : Y)
    → cond test (Ok x) (Err y) ≡ Err z → (test ≡ false) × (y ≡ z)
refused true x y z e = absurd cc
refused false x y z e = (refl, cc)

-- a fault is too long a text exactly if there are that many bytes
long : (room at : ℕ) (bytes : List ℕ) → (unended room at bytes ≡ LongText at) ↔ (length bytes ≡ room)
long room at bytes = (by (length bytes == room) refl, λ e. rw (eq-eqb (length bytes) room e) refl)
  where
    by : (test : Bool) → (length bytes == room) ≡ test → cond test (LongText at) (OutOfRange at) ≡ LongText at
        → length bytes ≡ room
    by true is e = eqb-true (length bytes) room is
    by false is e = absurd cc

-- else it is out of range
outside : (room at : ℕ) (bytes : List ℕ) → (unended room at bytes ≡ OutOfRange at) ↔ (length bytes ≢ room)
outside room at bytes = (by (length bytes == room) refl, λ n. rw (ne_eqb (length bytes) room n) refl)
  where
    by : (test : Bool) → (length bytes == room) ≡ test → cond test (LongText at) (OutOfRange at) ≡ OutOfRange at
        → length bytes ≢ room
    by true is e = absurd cc
    by false is e = λ h. absurd (cc (eq-eqb (length bytes) room h))

module _ (room : ℕ) (some : 0 < room) (c : List ℕ) (at : ℕ) where
  -- the bytes that are looked at
  abbrev bytes : List ℕ
  bytes = front room c at

  -- they are as many as there is room for, or as there are
  size : length bytes ≡ min room (length c - at)
  size = length-take room (drop at c) ∙ ap (min room) (length-drop at c)

  -- bytes are no text exactly if they have no zero
  none_read : HasNoZero bytes → text_in room at bytes ≡ Err (unended room at bytes)
  none_read none =
      let all = before_zero-none bytes none in
      rw (le-ltb (length (before_zero bytes)) (length bytes) (omega (arith, ap length all))) refl

  -- where no text is read, they have no zero, and this is why
  unread : (fault : ByteFault) → text_in room at bytes ≡ Err fault
      → HasNoZero bytes × (unended room at bytes ≡ fault)
  unread fault e =
      let r = refused (nat_lt (length (before_zero bytes)) (length bytes)) (before_zero bytes)
      (unended room at bytes) fault e in
      (none_if_whole bytes (ltb-false (length (before_zero bytes)) (length bytes) r.0), r.1)

  -- the text is too long exactly where all the room lies in the cache and has no zero
  long_in : (text_in room at bytes ≡ Err (LongText at)) ↔ ((at + room ≤ length c) × HasNoZero bytes)
  long_in = (
    λ e. let u = unread (LongText at) e in let whole = (long room at bytes).0 u.1 in (omega (arith, size), u.0),
    λ h. none_read h.1 ∙ ap Err ((long room at bytes).1 (omega (arith, size, h.0))),
  )

  -- it is out of range exactly where the cache ends first, without a zero
  outside_in : (text_in room at bytes ≡ Err (OutOfRange at)) ↔ ((length c < at + room) × HasNoZero bytes)
  outside_in = (
    λ e. let u = unread (OutOfRange at) e in let less = (outside room at bytes).0 u.1 in (omega (arith, size), u.0),
    λ h. none_read h.1 ∙ ap Err ((outside room at bytes).1 (omega (arith, size, h.0))),
  )

  -- there is no order exactly if there is no text and the key begins with the bytes
  order_refused : (key : List ℕ) (fault : ByteFault)
      → (order_in room at bytes key ≡ Err fault)
      ↔ ((text_in room at bytes ≡ Err fault) × (take (length bytes) key ≡ bytes))
  order_refused key fault = (
    λ e.
        let r = refused (nat_lt (shared bytes key) (length bytes)) (slice_cmp nat_cmp (before_zero bytes) key)
        (unended room at bytes) fault e in
        let whole = ltb-false (shared bytes key) (length bytes) r.0 in
        let reach = common_prefix_len-le nat_eq (before_zero bytes) key in
        let shorter = length-before_zero bytes in
        let none = none_if_whole bytes (omega arith) in
        let all = before_zero-none bytes none in
        let equal : common_prefix_len nat_eq bytes key ≡ length bytes =
        ap (λ xs. common_prefix_len nat_eq xs key) (sym all) ∙ (omega arith) in
        (none_read none ∙ ap Err r.1, front_by_prefix bytes key equal),
    λ h.
        let u = unread fault h.0 in
        let all = before_zero-none bytes u.0 in
        let equal : shared bytes key ≡ length bytes =
        ap (λ xs. common_prefix_len nat_eq xs key) all ∙ prefix_by_front bytes key h.1 in
        rw (le-ltb (shared bytes key) (length bytes) (omega arith)) (ap Err u.1),
  )

-- too long exactly where 256 bytes have no zero
pub text_at-long : (c : List ℕ) (at : ℕ)
    → (text_at c at ≡ Err (LongText at)) ↔ ((at + 256 ≤ length c) × HasNoZero (front 256 c at))
unfolding text_at
text_at-long c at = long_in 256 (omega arith) c at

-- out of range exactly where the bytes end before a zero
pub text_at-outside : (c : List ℕ) (at : ℕ)
    → (text_at c at ≡ Err (OutOfRange at)) ↔ ((length c < at + 256) × HasNoZero (front 256 c at))
unfolding text_at
text_at-outside c at = outside_in 256 (omega arith) c at

-- an order is refused exactly where the text is and all its bytes are the key's
pub order_at-refused : (c : List ℕ) (at : ℕ) (key : List ℕ) (fault : ByteFault)
    → (order_at c at key ≡ Err fault)
    ↔ ((text_at c at ≡ Err fault) × (take (length (front 256 c at)) key ≡ front 256 c at))
unfolding text_at order_at
order_at-refused c at key fault = order_refused 256 (omega arith) c at key fault
