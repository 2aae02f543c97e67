use Rattle.std.proofs.Common.{◌==◌, not, take, ap, ◌∙◌, arith}
use Rattle.std.proofs.lemmas.List.{length-take-le}
use Rattle.std.proofs.lemmas.Simd.{mask_l-mod}
use Rattle.mime_view.proofs.CapitalLemmas.{capital_lanes, capital_lanes-length, lanes-capitals}
use Rattle.mime_view.proofs.capitals.capital_in_sixteen.Goals as goal

pub returns : goal.returns
returns c =
    let front = take 16 c.args.name.now in
    let long = length-take-le 16 c.args.name.now c.requires in
    ap (λ mask. not (mask == 0)) (mask_l-mod (capital_lanes 16 front) 64 (omega (arith, capital_lanes-length 16 front long)))
    ∙ lanes-capitals 16 front long
