use Rattle.std.proofs.Common.{arith}
use Rattle.mime_base.specs.Database.{plain_database}
use Rattle.mime_text.specs.Merging.{plain_dirs}
use Rattle.mime_c.proofs.merge.merged_cache.Goals as goal

pub returns-in-Err-TooLarge : goal.returns-in-Err-TooLarge
returns-in-Err-TooLarge c = (
  plain_database c.in-Ok-merge_visible.database,
  (plain_dirs c.in-Ok.files.items, c.in-Ok.ensures.says, c.in-Ok-merge_visible.ensures.visible),
  omega (arith, c.in-Err-TooLarge.ensures.too_large c.in-Err-TooLarge.field-0-is),
)
