-- What a lookup promises C, in one place: of any bytes, and of a cache that was written from merged directories.
use Rattle.std.specs.Prelude.{◌≡◌, ◌⊎◌, ℕ, ◌≤◌, List, length, Option}
use Rattle.mime_base.specs.Database.{PlainDatabase}
use Rattle.mime_base.specs.Database.Limits.{IsWithinLimits}
use Rattle.mime_base.specs.Format.Packed.{Packed}
use Rattle.mime_base.specs.Format.Spells.{Spells}
use Rattle.mime_base.specs.declared.magic.host.Host.TheVariants.{Little}
use Rattle.mime_c.specs.Report.{meter_of}
use Rattle.mime_c.specs.Status.{status_answered, status_out_of_memory}
use Rattle.mime_c.specs.declared.report.Report.{Report}
use Rattle.mime_lookup.specs.CheckingOrder.{Chooses}
use Rattle.mime_lookup.specs.Headline.{StaysWithin}
use Rattle.mime_lookup.specs.declared.order.Order.{Order}

-- On any bytes a lookup returns within its bounds. Where they spell a database within the limits and are packed, it answers the
-- type that the checking order gives over the database, unless memory was refused.
pub record IsHeadline (c name : List ℕ) (content : Option (List ℕ)) (order : Order) (kind : List ℕ) (told : Report) : Type 0 where
  pub any_bytes : StaysWithin c name told.read (meter_of told)
  pub written : (b : PlainDatabase) → IsWithinLimits b → Spells c b → Packed c b → length name ≤ 4096 →
      ((told.status ≡ status_answered) × Chooses b name content Little order kind) ⊎ (told.status ≡ status_out_of_memory)
