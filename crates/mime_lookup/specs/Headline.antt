-- What a lookup over a cache promises, in one place: of any bytes, and of a cache that was written from merged directories.
use Rattle.std.specs.Prelude.{◌≡◌, ◌⊎◌, ℕ, ◌≤◌, max, List, length, Option, Result, IfSome, MatchResult}
use Rattle.mime_base.specs.Database.{PlainDatabase}
use Rattle.mime_base.specs.Database.Limits.{IsWithinLimits}
use Rattle.mime_base.specs.Format.Packed.{Packed}
use Rattle.mime_base.specs.Format.Spells.{Spells}
use Rattle.mime_base.specs.declared.magic.host.Host.{Host}
use Rattle.mime_base.specs.declared.meter.Meter.{Meter}
use Rattle.mime_lookup.specs.Bounds.{KeepsBounds, stated_extent}
use Rattle.mime_lookup.specs.CheckingOrder.{Chooses}
use Rattle.mime_lookup.specs.Content.{GivesUp, OfReader, Tally, known_content}
use Rattle.mime_lookup.specs.declared.answer.Answer.{Answer}
use Rattle.mime_lookup.specs.declared.order.Order.{Order}
use Rattle.mime_lookup.specs.declared.stopped.Cause.{Cause}
use Rattle.mime_lookup.specs.declared.stopped.Cause.TheVariants.{OutOfMemory, Read}
use Rattle.mime_lookup.specs.declared.stopped.Stopped.{Stopped}

-- of the content no more was read than 128 bytes or the stated extent, and the records visited and the bytes compared keep to
-- the bounds
pub record StaysWithin (c name : List ℕ) (read : ℕ) (meter : Meter) : Type 0 where
  -- Of the content no more was read.
  pub limit : read ≤ max 128 (stated_extent c)
  -- The records visited and the bytes compared are no more than these.
  pub bounds : KeepsBounds (length name) c read meter

-- memory was refused, or a read of the content failed or was interrupted once more than is tried again
abbrev pub IsRefused : {R : Type 0} → (R → Option Tally) → Option R → Option R → Cause → Type 0
IsRefused tally before after cause = (cause ≡ OutOfMemory)
    ⊎ ((cause ≡ Read) × OfReader (λ old new. GivesUp (tally old) (tally new) 1000) ⊥ before after)

-- On any bytes a lookup returns within its bounds. Where they spell a database within the limits and are packed, it answers the
-- type that the checking order gives over the database, unless it was refused.
pub record IsHeadline {R : Type 0} (remaining : R → Option (List ℕ)) (tally : R → Option Tally) (c name : List ℕ)
    (before after : Option R) (host : Host) (order : Order) (result : Result Answer Stopped) : Type 0 where
  -- Whatever the bytes are, it stays within.
  pub any_bytes : MatchResult result
      (λ answer. StaysWithin c name answer.read answer.meter) (λ stopped. StaysWithin c name stopped.read stopped.meter)
  -- Over a packed database within the limits it answers as the checking order says, or was refused.
  pub written : (b : PlainDatabase) → IsWithinLimits b → Spells c b → Packed c b → length name ≤ 4096 →
      MatchResult result
      (λ answer. IfSome (known_content remaining before) (λ known. Chooses b name known host order answer.kind.now))
      (λ stopped. IsRefused tally before after stopped.cause)
