use Rattle.std.proofs.Common.{length, refl, arith}
use Rattle.mime_lookup.specs.Places.{placed}
use Rattle.mime_lookup.specs.Ancestry.{is_among, unmarked}
use Rattle.mime_lookup.proofs.AncestryLemmas.Marks.{none_marked}
use Rattle.mime_lookup.proofs.AncestryLemmas.SearchBytes.{search-all, search-last, search-start}
use Rattle.mime_lookup.proofs.ancestry.first_at.Goals as goal

pub loop-kind-init : goal.loop-kind-init
loop-kind-init c = record {
  nodes = refl;
  bytes =
      rw c.new-marks.ensures.empty (omega (arith, search-start (placed c.args.both.now).parents 0 (length c.args.base.now)));
  settled = rw c.new-marks.ensures.empty (none_marked (placed c.args.both.now) c.args.base.now);
  rest = λ answer first. first;
}

pub returns-in_err-is_a-clause-bytes : goal.returns-in_err-is_a-clause-bytes
returns-in_err-is_a-clause-bytes c =
    search-last (length c.args.base.now) (length c.args.kinds.now) c.loop-kind.kind-index (length (placed c.args.both.now).parents)
    (unmarked (placed c.args.both.now).parents (is_among c.loop-kind.marks.keys)) c.args.meter.now.bytes c.loop-kind.meter.bytes
    c.is_a.new.meter.bytes c.loop-kind-test.true c.loop-kind.invariant.bytes c.is_a.ensures.bytes

pub returns-then-branch-clause-bytes : goal.returns-then-branch-clause-bytes
returns-then-branch-clause-bytes c =
    search-last (length c.args.base.now) (length c.args.kinds.now) c.loop-kind.kind-index (length (placed c.args.both.now).parents)
    (unmarked (placed c.args.both.now).parents (is_among c.loop-kind.marks.keys)) c.args.meter.now.bytes c.loop-kind.meter.bytes
    c.is_a.new.meter.bytes c.loop-kind-test.true c.loop-kind.invariant.bytes c.is_a.ensures.bytes

pub returns-clause-bytes : goal.returns-clause-bytes
returns-clause-bytes c =
    search-all (length c.args.base.now) (length c.args.kinds.now) c.loop-kind.kind-index (length (placed c.args.both.now).parents)
    (unmarked (placed c.args.both.now).parents (is_among c.loop-kind.marks.keys)) c.args.meter.now.bytes c.loop-kind.meter.bytes
    (omega arith) c.loop-kind.invariant.bytes
