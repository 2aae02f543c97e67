use Rattle.std.proofs.Common.{length}
use Rattle.mime_fakes.proofs.reader.Script.step.Given as goal

abbrev pub decreases-loop-first : goal.decreases-loop-first
decreases-loop-first l = length l.self.steps.now
