use Rattle.std.proofs.Common.{◌≡◌, ◌++◌, length, reverse}
use Rattle.mime_text.specs.Merging.{picked}
use Rattle.mime_text.proofs.merging.first.marked.Given as goal

-- the marked entries that are left, and those that were taken, the first last
abbrev pub invariant-loop-entry : goal.invariant-loop-entry
invariant-loop-entry g l = record {
  lengths : length l.marks.items ≡ length l.entries.items;
  kept : picked l.marks.items l.entries.items ++ reverse l.kept.items ≡ picked l.fn.marks.items l.fn.entries.items;
}

abbrev pub decreases-loop-entry : goal.decreases-loop-entry
decreases-loop-entry g l = length l.entries.items
