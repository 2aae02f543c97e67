use Rattle.std.proofs.Common.{arith}
use Rattle.mime_base.proofs.MatchingLemmas.Places.{reached-one, reached-halt}
use Rattle.mime_base.proofs.matching.attempt.attempt.Goals as goal

pub loop-left-preserved : goal.loop-left-preserved
loop-left-preserved c = record {
  room = omega (arith, c.in-Passes.ensures.shorter.0);
  place = omega (arith, c.in-Passes.ensures.shorter.1);
  endless = c.in-Passes.ensures.endless;
  reached = reached-one _ _ _ _ _ _ _ c.loop-left.invariant.reached c.in-Passes.ensures.step;
}

pub returns-in-Halts-clause-goes : goal.returns-in-Halts-clause-goes
returns-in-Halts-clause-goes c = reached-halt _ _ _ _ _ _ _ c.loop-left.invariant.reached c.in-Halts.ensures.step
