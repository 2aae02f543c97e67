use Rattle.std.proofs.Common.{◌≡◌, ◌++◌, ℕ, List, drop}
use Rattle.mime_text.specs.Merging.{is_among, without}
use Rattle.mime_text.proofs.merging.kept.Kept.add.Given as goal

-- the items were added, and the types so far with those that are left are all
abbrev pub invariant-loop-kind : goal.invariant-loop-kind
invariant-loop-kind g l = record {
  items : l.self.items.items ≡ l.fn.self.items.items ++ without g.T.Kinded.kind_of l.fn.self.deleted l.fn.items.items;
  deleted : (kind : List ℕ) → is_among (l.self.deleted ++ drop l.kind-index l.deleted) kind ≡ is_among (l.fn.self.deleted ++ l.deleted) kind;
}
