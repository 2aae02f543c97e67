use Rattle.std.proofs.Common.{◌==◌, ◌%◌, ◌^◌, not, take, ap, arith, w8}
use Rattle.std.proofs.lemmas.List.{length-take-le}
use Rattle.std.proofs.lemmas.Simd.{tops_compared}
use Rattle.std.specs.Simd.Lanes.{mask_l}
use Rattle.mime_base.proofs.CacheLemmas.Eights.{common-found}
use Rattle.mime_base.proofs.cache.comparing.common_of_eight.Goals as goal

pub returns-else-places-eq0 : goal.returns-else-places-eq0
returns-else-places-eq0 c =
    let xs = take 8 c.args.left.now in
    let ys = take 8 c.args.right.now in
    let found = common-found xs ys _ (length-take-le 8 c.args.left.now c.requires.left) (length-take-le 8 c.args.right.now c.requires.right)
    (ap (λ ms. mask_l ms % 2 ^ 64) (tops_compared w8 (λ a b. not (a == b)) xs ys)) (omega (arith, c.if-places-eq0.false)) in
    record { common = found.0; most = found.1 }
