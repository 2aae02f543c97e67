use Rattle.std.proofs.Common.{take, refl, arith}
use Rattle.std.proofs.lemmas.List.{length-take-le}
use Rattle.mime_base.proofs.CacheLemmas.Eights.{shared-all, shared-found}
use Rattle.mime_base.proofs.cache.comparing.shared_of_sixteen.Goals as goal

pub returns-else-places-eq0 : goal.returns-else-places-eq0
returns-else-places-eq0 c =
    let xs = take 16 c.args.front.now in
    let ys = take 16 c.args.key.now in
    let found = shared-found 16 xs ys _ (omega arith) (length-take-le 16 c.args.front.now c.requires.front) (length-take-le 16 c.args.key.now c.requires.key)
    refl (omega (arith, c.if-places-eq0.false)) in
    record { shared = found.0; most = found.1 }

pub returns-then-places-eq0-clause-shared : goal.returns-then-places-eq0-clause-shared
returns-then-places-eq0-clause-shared c =
    let xs = take 16 c.args.front.now in
    let ys = take 16 c.args.key.now in
    shared-all 16 xs ys _ (omega arith) (length-take-le 16 c.args.front.now c.requires.front)
    (length-take-le 16 c.args.key.now c.requires.key) refl c.if-places-eq0.true
