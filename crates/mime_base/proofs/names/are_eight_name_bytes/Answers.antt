use Rattle.std.proofs.Common.{◌==◌, take, ap, ◌∙◌, arith}
use Rattle.std.proofs.lemmas.List.{length-take-le}
use Rattle.std.proofs.lemmas.Simd.{mask_l-mod}
use Rattle.mime_base.proofs.NameLemmas.{lanes-names, wrong_lanes, wrong_lanes-length}
use Rattle.mime_base.proofs.names.are_eight_name_bytes.Goals as goal

pub returns : goal.returns
returns c =
    let front = take 8 c.args.bytes.now in
    let long = length-take-le 8 c.args.bytes.now c.requires in
    ap (λ mask. mask == 0) (mask_l-mod (wrong_lanes 8 front) 64 (omega (arith, wrong_lanes-length 8 front long)))
    ∙ lanes-names 8 front long
