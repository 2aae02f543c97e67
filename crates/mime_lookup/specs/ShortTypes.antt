-- How long the types may be that a content is sniffed as.
use Rattle.std.specs.Prelude.{◌≤◌, All, length}
use Rattle.mime_base.specs.Database.{PlainDatabase}

-- None of a database has more than 255 bytes.
pub record HasShortTypes (b : PlainDatabase) : Type 0 where
  -- None that a section gives.
  pub sections : All (λ section. length section.kind ≤ 255) b.sections
  -- None that an alias stands for.
  pub targets : All (λ pair. length pair.1 ≤ 255) b.aliases
