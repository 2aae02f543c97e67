use Rattle.std.proofs.Common.{◌≡◌, length, rules, arith}
use Rattle.mime_load.proofs.ParentsRead.{name_inside, name_read}
use Rattle.mime_load.proofs.parents.read_parent.Goals as goal

pub returns-in_err-numbers-clause-need : goal.returns-in_err-numbers-clause-need
returns-in_err-numbers-clause-need c = λ target stands.
    absurd (omega (arith, name_inside c.args.source.now.counted.now c.args.at target stands, c.in_err-numbers.ensures.fault))

pub returns-clause-need : goal.returns-clause-need
returns-clause-need c =
    let long : length c.in_ok-numbers.numbers ≡ 1 = search rules in λ target stands.
    c.read_text.ensures.need target
    (name_read c.args.source.now.counted.now c.args.at c.in_ok-numbers.numbers target long c.in_ok-numbers.ensures.stand stands)
