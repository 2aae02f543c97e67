use Rattle.std.proofs.Common.{◌==◌, ◌%◌, ◌^◌, take, replicate, ap, arith, w8}
use Rattle.std.proofs.lemmas.List.{length-take-le}
use Rattle.std.proofs.lemmas.Simd.{tops_compared}
use Rattle.std.specs.Simd.Lanes.{mask_l}
use Rattle.mime_base.proofs.CacheLemmas.ZeroLanes.{zero-found}
use Rattle.mime_base.proofs.cache.zero_of_sixteen.Goals as goal

pub returns : goal.returns
returns c =
    zero-found 16 c.args.bytes.now _ (omega arith) (length-take-le 16 c.args.bytes.now c.requires)
    (ap (λ ms. mask_l ms % 2 ^ 64) (tops_compared w8 (λ a b. a == b) (take 16 c.args.bytes.now) (replicate 16 0)))
