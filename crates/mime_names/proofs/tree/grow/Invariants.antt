use Rattle.std.proofs.Common.{◌≡◌, ◌-◌, ◌<◌, ◌≤◌, length, drop, get_or}
use Rattle.mime_names.specs.Tree.{AddsText, next_of, spelled, symbol}
use Rattle.mime_names.proofs.tree.grow.Given as goal

abbrev pub invariant-loop-left : goal.invariant-loop-left
invariant-loop-left l = record {
  within : l.left ≤ length l.text;
  added : AddsText l.initial.tree (drop l.left (spelled l.text)) l.tree l.at;
  last : 0 < l.left → next_of l.tree l.at (symbol (get_or l.text (l.left - 1) 0)) ≡ 0;
}

abbrev pub decreases-loop-left : goal.decreases-loop-left
decreases-loop-left l = l.left
