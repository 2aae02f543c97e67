use Rattle.std.proofs.Common.{◌==◌, not, take, ap, ◌∙◌, arith}
use Rattle.std.proofs.lemmas.List.{length-take-le}
use Rattle.std.proofs.lemmas.Simd.{mask_l-mod}
use Rattle.mime_view.proofs.CapitalLemmas.{capital_lanes, capital_lanes-length, lanes-capitals}
use Rattle.mime_view.proofs.capitals.capital_in_eight.Goals as goal

pub returns : goal.returns
returns c =
    let front = take 8 c.args.name.now in
    let long = length-take-le 8 c.args.name.now c.requires in
    ap (λ mask. not (mask == 0)) (mask_l-mod (capital_lanes 8 front) 64 (omega (arith, capital_lanes-length 8 front long)))
    ∙ lanes-capitals 8 front long
