use Rattle.std.proofs.Common.{◌≡◌, ◌++◌}
use Rattle.mime_text.specs.Merging.{without}
use Rattle.mime_text.proofs.merging.kept.Kept.keep.Given as goal

-- the items so far that are not discarded were added
abbrev pub invariant-loop-item : goal.invariant-loop-item
invariant-loop-item g l = record {
  items : l.self.items.items ≡ l.fn.self.items.items ++ without g.T.Kinded.kind_of l.fn.self.deleted l.yielded;
  deleted : l.self.deleted ≡ l.fn.self.deleted;
}
