-- A type more of those that are left.
use Rattle.std.proofs.Common.{◌∙◌}
use Rattle.mime_text.proofs.Merges.Undeleted.{kinds-more}
use Rattle.mime_text.proofs.merging.kept.Kept.add.Goals as goal

pub loop-kind-preserved : goal.loop-kind-preserved
loop-kind-preserved g c = record {
  items = c.loop-kind.invariant.items;
  deleted = λ kind.
      kinds-more c.args.deleted.now c.loop-kind.kind-index c.kind-item.result c.loop-kind-test.true c.kind-item.is
      c.loop-kind.self.deleted c.add.new.self kind (c.in_ok-add.ensures kind)
      ∙ c.loop-kind.invariant.deleted kind;
}
