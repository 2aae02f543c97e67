use Rattle.std.proofs.Common.{take, refl, arith}
use Rattle.std.proofs.lemmas.List.{length-take-le}
use Rattle.mime_base.proofs.CacheLemmas.Eights.{shared-found}
use Rattle.mime_base.proofs.cache.comparing.shared_of_eight.Goals as goal

pub returns-else-places-eq0 : goal.returns-else-places-eq0
returns-else-places-eq0 c =
    let xs = take 8 c.args.front.now in
    let ys = take 8 c.args.key.now in
    let found = shared-found 8 xs ys _ (omega arith) (length-take-le 8 c.args.front.now c.requires.front) (length-take-le 8 c.args.key.now c.requires.key)
    refl (omega (arith, c.if-places-eq0.false)) in
    record { shared = found.0; most = found.1 }
