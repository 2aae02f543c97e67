use Rattle.std.proofs.Common.{length}
use Rattle.mime_text.specs.Magic.Entries.{plain_flat_sections}
use Rattle.mime_text.specs.Magic.Reading.{sections_at}
use Rattle.mime_text.proofs.MagicLemmas.SectionsLoop.{ReadsSections}
use Rattle.mime_text.proofs.magic.text.sections.Given as goal

abbrev pub invariant-loop-rest : goal.invariant-loop-rest
invariant-loop-rest l = ReadsSections (plain_flat_sections l.sections.items) l.rest (sections_at (length l.bytes) l.bytes)

abbrev pub decreases-loop-rest : goal.decreases-loop-rest
decreases-loop-rest l = length l.rest
