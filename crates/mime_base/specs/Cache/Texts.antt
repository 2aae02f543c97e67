-- Texts in the bytes of a cache: they end in a zero, which is one of their first 256 bytes.
use Rattle.std.specs.Prelude.{◌≡◌, ◌≢◌, ◌≤◌, ℕ, ◌+◌, ◌<◌, ◌==◌, nat_eq, nat_lt, min, if◌then◌else◌, List, [], ◌∷◌, ◌++◌, length}
use Rattle.std.specs.Prelude.{take, drop, replicate, Result, Ok, Err, IfErr}
use Rattle.std.specs.List.{common_prefix_len}
use Rattle.std.specs.Ordering.{nat_cmp}
use Rattle.std.specs.Cmp.Lexicographic.{slice_cmp}
use Rattle.std.specs.declared.cmp.Ordering.{Ordering}
use Rattle.mime_base.specs.Meter.{raised}
use Rattle.mime_base.specs.declared.cache.byte_fault.ByteFault.{ByteFault}
use Rattle.mime_base.specs.declared.cache.byte_fault.ByteFault.TheVariants.{OutOfRange, LongText}
use Rattle.mime_base.specs.declared.meter.Meter.{Meter}

-- no byte is zero
abbrev pub HasNoZero : List ℕ → Type 0
HasNoZero [] = Unit {0}
HasNoZero (b ∷ bytes) = (b ≢ 0) × HasNoZero bytes

-- what a cache may hold as a text: no zero byte, and at most 256 bytes with the zero after it
pub record IsText (text : List ℕ) : Type 0 where
  pub no_zero : HasNoZero text
  pub short : length text < 256

-- a text with its zero
abbrev pub ended : List ℕ → List ℕ
ended text = text ++ 0 ∷ []

-- the bytes before the first zero
abbrev pub before_zero : List ℕ → List ℕ
before_zero [] = []
before_zero (b ∷ bytes) = if b == 0 then [] else b ∷ before_zero bytes

-- the bytes at `at` among which a text has its zero: `room` of them, or all that are left
abbrev pub front : ℕ → List ℕ → ℕ → List ℕ
front room c at = take room (drop at c)

-- why bytes without a zero are no text: there are `room` of them, or they end before
abbrev pub unended : ℕ → ℕ → List ℕ → ByteFault
unended room at bytes = if length bytes == room then LongText at else OutOfRange at

-- the text whose bytes, its zero included, are among these
abbrev pub text_in : ℕ → ℕ → List ℕ → Result (List ℕ) ByteFault
text_in room at bytes =
    if nat_lt (length (before_zero bytes)) (length bytes) then Ok (before_zero bytes)
    else Err (unended room at bytes)

-- how many of its bytes are equal to those of a key, before the first difference and before the zero
abbrev pub shared : List ℕ → List ℕ → ℕ
shared bytes key = common_prefix_len nat_eq (before_zero bytes) key

-- the first `room` bytes, with zeros for those that are lacking
unfoldable pub padded : ℕ → List ℕ → List ℕ
padded room bytes = take room (bytes ++ replicate room 0)

-- the order of the text against a key, where a difference or the zero is among the bytes
abbrev pub order_in : ℕ → ℕ → List ℕ → List ℕ → Result Ordering ByteFault
order_in room at bytes key =
    if nat_lt (shared bytes key) (length bytes) then Ok (slice_cmp nat_cmp (before_zero bytes) key)
    else Err (unended room at bytes)

-- the text at `at`, without its zero
unfoldable pub text_at : List ℕ → ℕ → Result (List ℕ) ByteFault
text_at c at = text_in 256 at (front 256 c at)

-- how many bytes are looked at for it: with its zero, or all that may be
unfoldable pub text_cost : List ℕ → ℕ → ℕ
text_cost c at = min (length (before_zero (front 256 c at)) + 1) (length (front 256 c at))

-- how the text at `at` compares with a key
unfoldable pub order_at : List ℕ → ℕ → List ℕ → Result Ordering ByteFault
order_at c at key = order_in 256 at (front 256 c at) key

-- how many bytes are looked at for it: with the first difference or the zero, or all that may be
unfoldable pub order_cost : List ℕ → ℕ → List ℕ → ℕ
order_cost c at key = min (shared (front 256 c at) key + 1) (length (front 256 c at))

-- What comes of comparing the text at `at` with a key.
pub record Compares (c : List ℕ) (at : ℕ) (key : List ℕ) (old new : Meter) (result : Result Ordering ByteFault) : Type 0 where
  -- The first difference decides, also where no zero follows; a fault comes where neither is among 256 bytes.
  pub order : result ≡ order_at c at key
  -- Where a text stands, the answer is its order against the key.
  pub text : (text : List ℕ) → text_at c at ≡ Ok text → result ≡ Ok (slice_cmp nat_cmp text key)
  -- A fault means that no text stands there, and is the fault of reading one.
  pub fault : IfErr result (λ fault. text_at c at ≡ Err fault)
  -- No record is counted.
  pub nodes : new.nodes ≡ old.nodes
  -- It counts the bytes up to and including the first difference or the zero; before a fault, all that lie there.
  pub bytes : new.bytes ≡ raised old.bytes (order_cost c at key)
  -- It counts at most 256 bytes.
  pub limit : order_cost c at key ≤ 256
  -- The count of bytes never falls, since it stops at the greatest number.
  pub rises : old.bytes ≤ new.bytes
