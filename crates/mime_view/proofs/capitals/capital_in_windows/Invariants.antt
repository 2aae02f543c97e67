use Rattle.std.proofs.Common.{◌≡◌, length, drop, ◌-◌}
use Rattle.mime_view.specs.NameHits.{has_capitals}
use Rattle.mime_view.proofs.capitals.capital_in_windows.Given as goal

abbrev pub invariant-loop-start : goal.invariant-loop-start
invariant-loop-start l = has_capitals (drop l.start l.name) ≡ has_capitals l.name

abbrev pub decreases-loop-start : goal.decreases-loop-start
decreases-loop-start l = length l.name - l.start
