use Rattle.std.proofs.Common.{arith, ◌≡◌, ◌≤◌, ◌+◌, ◌-◌, length, drop, refl}
use Rattle.std.proofs.lemmas.List.{length-drop, take_rest}
use Rattle.mime_store.proofs.ParentsLemmas.RunLoops.{runs_end, runs_more, taken_some}
use Rattle.mime_store.proofs.parents.runs.Goals as goal

pub loop-at-preserved : goal.loop-at-preserved
loop-at-preserved c =
    let xs = c.args.pairs.now in
    let at = c.loop-at.at in
    let n = c.run_length-taken.result in
    let within : n ≤ length (drop at xs) = rw (take_rest xs at) at c.run_length-taken.ensures.within in
    let same : at + n - at ≡ n = omega arith in
    record {
      within = omega (arith, within, length-drop at xs, c.loop-at-test.true);
      goes = λ later rest. rw c.in_ok-push.ensures.items
          (runs_more xs at n (at + n - at) _ c.loop-at.runs.items _ _ later c.requires.sorted c.loop-at-test.true within refl
          same refl
          (rw (take_rest xs at) at c.run_length-taken.ensures.all) (rw (take_rest xs at) at c.run_length-taken.ensures.ends)
          c.loop-at.invariant.goes rest);
    }

pub loop-at-smaller : goal.loop-at-smaller
loop-at-smaller c =
    let xs = c.args.pairs.now in
    let at = c.loop-at.at in
    omega (
      arith,
      c.loop-at-test.true,
      taken_some xs at c.run_length-taken.result _ _ c.loop-at-test.true refl (rw (take_rest xs at) at c.run_length-taken.ensures.ends),
    )

pub returns : goal.returns
returns c = runs_end c.args.pairs.now c.loop-at.at _ c.loop-at-test.false c.loop-at.invariant.goes
