use Rattle.std.proofs.Common.{◌==◌, take, ap, ◌∙◌, arith}
use Rattle.std.proofs.lemmas.List.{length-take-le}
use Rattle.std.proofs.lemmas.Simd.{mask_l-mod}
use Rattle.mime_base.proofs.NameLemmas.{lanes-names, wrong_lanes, wrong_lanes-length}
use Rattle.mime_base.proofs.names.are_sixteen_name_bytes.Goals as goal

pub returns : goal.returns
returns c =
    let front = take 16 c.args.bytes.now in
    let long = length-take-le 16 c.args.bytes.now c.requires in
    ap (λ mask. mask == 0) (mask_l-mod (wrong_lanes 16 front) 64 (omega (arith, wrong_lanes-length 16 front long)))
    ∙ lanes-names 16 front long
