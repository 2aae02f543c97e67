use Rattle.std.proofs.Common.{length}
use Rattle.view_bench.proofs.over_contents.Given as goal

abbrev pub decreases-loop-rest : goal.decreases-loop-rest
decreases-loop-rest l = length l.rest
