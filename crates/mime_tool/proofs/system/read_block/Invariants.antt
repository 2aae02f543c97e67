use Rattle.std.specs.Io.KnownBytes.{Keeps}
use Rattle.mime_tool.proofs.system.read_block.Given as goal

abbrev pub invariant-loop-count : goal.invariant-loop-count
invariant-loop-count g l = Keeps (g.R.Read.remaining l.initial.file) (g.R.Read.remaining l.file)

abbrev pub decreases-loop-count : goal.decreases-loop-count
decreases-loop-count g l = l.retries
