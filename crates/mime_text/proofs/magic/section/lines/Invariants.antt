use Rattle.std.proofs.Common.{length}
use Rattle.mime_text.specs.Magic.Entries.{plain_entries}
use Rattle.mime_text.specs.Magic.Reading.{lines_at}
use Rattle.mime_text.proofs.MagicLemmas.LinesLoop.{ReadsLines}
use Rattle.mime_text.proofs.magic.section.lines.Given as goal

abbrev pub invariant-loop-b : goal.invariant-loop-b
invariant-loop-b l = ReadsLines (plain_entries l.entries.items) l.limit l.rest (lines_at (length l.bytes) 0 l.bytes)

abbrev pub decreases-loop-b : goal.decreases-loop-b
decreases-loop-b l = length l.rest
