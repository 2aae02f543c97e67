-- What is read back of the magic list of a cache.
use Rattle.std.specs.Prelude.{◌≡◌, ℕ, List}
use Rattle.mime_base.specs.Magic.{PlainSection}
use Rattle.mime_load.specs.MagicStanding.{HasMagic}
use Rattle.mime_load.specs.declared.line.LentLine.{LentLine}
use Rattle.mime_lookup.specs.TopLines.{lent_top, plain_tops, top_lines}
use Rattle.mime_lookup.specs.declared.indexed.magic_line.LentTop.{LentTop}
use Rattle.mime_lookup.specs.declared.indexed.top_line.TopLine.{TopLine}

-- An index is one of the magic list of a cache.
pub record IsMagicOf (c : List ℕ) (index : List LentLine × List (TopLine LentTop)) : Type 0 where
  -- The list is of these sections.
  pub sections : List PlainSection
  -- They stand in the cache.
  pub has : HasMagic c sections
  -- The index has their lines.
  pub lines : plain_tops (lent_top index.0) index.1 ≡ top_lines sections
