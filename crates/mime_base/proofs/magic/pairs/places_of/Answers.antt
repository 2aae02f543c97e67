use Rattle.std.proofs.Common.{◌==◌, take, arith, w8}
use Rattle.std.proofs.lemmas.List.{length-take-le}
use Rattle.std.proofs.lemmas.Simd.{bitmask_splat}
use Rattle.mime_base.proofs.magic.pairs.places_of.Goals as goal

pub returns : goal.returns
returns c =
    bitmask_splat w8 (λ a b. a == b) (take 32 c.args.bytes.now) 32 c.args.byte (length-take-le 32 c.args.bytes.now c.requires) (omega arith)
