use Rattle.std.proofs.Common.{◌≡◌, take}
use Rattle.mime_text.specs.Magic.Entries.{plain_flat_sections}
use Rattle.mime_text.specs.Magic.File.{deleted_kinds}
use Rattle.mime_text.proofs.magic.read.deleted.Given as goal

abbrev pub invariant-loop-flat : goal.invariant-loop-flat
invariant-loop-flat l = l.kinds.items ≡ deleted_kinds (plain_flat_sections (take l.flat-index l.flat_sections))
