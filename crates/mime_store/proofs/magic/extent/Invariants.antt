use Rattle.std.proofs.Common.{◌≡◌, take}
use Rattle.mime_base.specs.Magic.Extent.{sections_extent}
use Rattle.mime_base.specs.Magic.{plain_sections}
use Rattle.mime_store.proofs.magic.extent.Given as goal

abbrev pub invariant-loop-section : goal.invariant-loop-section
invariant-loop-section l = l.greatest ≡ sections_extent (plain_sections (take l.section-index l.sections))
