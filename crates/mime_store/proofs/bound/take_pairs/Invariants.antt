use Rattle.std.proofs.Common.{◌≡◌, ◌+◌, sum_by, take}
use Rattle.mime_base.specs.Database.PlainPairs.{plain_pairs}
use Rattle.mime_base.specs.Format.Room.{text_room}
use Rattle.mime_store.proofs.bound.take_pairs.Given as goal

abbrev pub invariant-loop-pair : goal.invariant-loop-pair
invariant-loop-pair l =
    l.rest + sum_by (λ pair. l.fixed + (text_room pair.0 + text_room pair.1)) (plain_pairs (take l.pair-index l.pairs)) ≡ l.left
