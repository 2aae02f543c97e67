use Rattle.std.proofs.Common.{◌-◌, length, arith}
use Rattle.std.proofs.lemmas.Slice.{between_to_end}
use Rattle.mime_base.proofs.CacheLemmas.Stops.{shared-window, shared-windows}
use Rattle.mime_base.proofs.cache.comparing.shared_by_sixteens.Goals as goal

pub returns-then-place-lt16-clause-shared : goal.returns-then-place-lt16-clause-shared
returns-then-place-lt16-clause-shared c =
    shared-window 16 256 c.shared_of_sixteen-place.result c.args.rest.now c.args.key.now (omega arith)
    c.shared_of_sixteen-place.ensures.shared c.if-place-lt16.true

pub returns-clause-shared : goal.returns-clause-shared
returns-clause-shared c =
    let last = length c.args.key.now - 16 in
    let rest = between_to_end c.args.rest.now last (length c.args.rest.now) (omega arith) in
    let key = between_to_end c.args.key.now last (length c.args.key.now) (omega arith) in
    shared-windows 16 256 c.shared_of_sixteen-place.result c.shared_of_sixteen.result last c.args.rest.now c.args.key.now
    (omega arith) (omega arith) (omega arith) c.shared_of_sixteen-place.ensures.shared (omega (arith, c.if-place-lt16.false))
    (rw (rest, key) at c.shared_of_sixteen.ensures.shared)
