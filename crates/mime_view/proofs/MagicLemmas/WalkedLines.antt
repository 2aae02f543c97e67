-- Whether lines and sections hold by their records, from what they say themselves and what those below them say.
use Rattle.std.proofs.Common.{◌≡◌, ℕ, zero, suc, ◌<◌, Bool, true, false, List, arith, inl, inr}
use Rattle.mime_base.specs.Cache.Bytes.{field}
use Rattle.mime_base.specs.declared.magic.host.Host.{Host}
use Rattle.mime_view.specs.Magic.{EqualsAt, LiesBlock}
use Rattle.mime_view.specs.Walked.{DiffersAt, FailsAt, HoldsAt, IsParent, WalksLine, WalksLines}

module _ (levels : ℕ) {c content : List ℕ} {host : Host} {r : ℕ} where
  -- a line that differs does not hold
  pub fails_alone : DiffersAt c content host r → FailsAt levels c content host r
  unfolding FailsAt
  fails_alone differs = by_levels levels
    where
      by_levels : (n : ℕ) → FailsAt n c content host r
      by_levels zero = differs
      by_levels (suc n) = inl differs

  -- one that equals its value and has no children does
  pub holds_alone : EqualsAt c r content host → field c r 6 ≡ 0 → HoldsAt levels c content host r
  unfolding HoldsAt
  holds_alone equals none = by_levels levels
    where
      by_levels : (n : ℕ) → HoldsAt n c content host r
      by_levels zero = (equals, none)
      by_levels (suc n) = inl (equals, none)

  -- any other that equals it holds where one of its children does
  pub walks_parent : (first count : ℕ) (holds : Bool) → count ≡ field c r 6 → first ≡ field c r 7 → EqualsAt c r content host → 0 < count
      → LiesBlock c first 32 count → WalksLines levels c content host first count holds → WalksLine (suc levels) c content host r holds
  unfolding FailsAt HoldsAt
  walks_parent first count true number place equals some lies below = inr (parent, rw (number, place) at below)
    where
      parent : IsParent c content host r
      parent = record { equals = equals; some = omega (arith, number); lies = rw (number, place) at lies }
  walks_parent first count false number place equals some lies below = inr (parent, rw (number, place) at below)
    where
      parent : IsParent c content host r
      parent = record { equals = equals; some = omega (arith, number); lies = rw (number, place) at lies }
