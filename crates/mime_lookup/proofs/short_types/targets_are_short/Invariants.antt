use Rattle.std.proofs.Common.{ℕ, ◌<◌, ◌≤◌, length, get_or}
use Rattle.mime_base.specs.declared.database.pair.Pair.{Pair}
use Rattle.mime_lookup.proofs.short_types.targets_are_short.Given as goal

abbrev pub invariant-loop-pair : goal.invariant-loop-pair
invariant-loop-pair l = (k : ℕ) (d : Pair) → k < l.pair-index → length (get_or l.pairs k d).target ≤ 255
