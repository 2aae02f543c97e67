-- In a front that is long enough the same is found as in the whole content.
use Rattle.std.proofs.Common.{◌≡◌, ℕ, max}
use Rattle.std.proofs.Common.{ap, ◌∙◌}
use Rattle.mime_base.specs.Database.{PlainDatabase}
use Rattle.mime_base.specs.Magic.Extent.{extent}
use Rattle.mime_lookup.specs.CheckingOrder.{read_limit}

-- the greatest of 128 bytes and the extent of a database
pub limit-stated : (b : PlainDatabase) (limit stated : ℕ) → limit ≡ max 128 stated → stated ≡ extent b → limit ≡ read_limit b
unfolding read_limit
limit-stated b limit stated is same = is ∙ ap (max 128) same
