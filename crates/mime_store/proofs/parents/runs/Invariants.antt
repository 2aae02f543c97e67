use Rattle.std.proofs.Common.{◌-◌, ◌≤◌, List, ◌++◌, drop, length, map}
use Rattle.mime_base.specs.Format.Runs.{AreRuns, PlainRun}
use Rattle.mime_store.specs.Runs.{plain_run}
use Rattle.mime_store.specs.Views.{pair_texts}
use Rattle.mime_store.proofs.parents.runs.Given as goal

abbrev pub invariant-loop-at : goal.invariant-loop-at
invariant-loop-at l = record {
  within : l.at ≤ length l.pairs;
  goes : (later : List PlainRun) → AreRuns later (map pair_texts (drop l.at l.pairs)) → AreRuns (map plain_run l.runs.items ++ later)
      (map pair_texts l.pairs);
}

abbrev pub decreases-loop-at : goal.decreases-loop-at
decreases-loop-at l = length l.pairs - l.at
