use Rattle.std.proofs.Common.{◌≡◌, ◌+◌, ◌*◌, ◌<◌, ℕ, List, [], ◌∷◌, ap, get_or, length, rules, arith}
use Rattle.mime_load.proofs.SameLemmas.{numbers_inside, same_numbers}
use Rattle.mime_load.proofs.reading.read_count.Goals as goal

pub returns-in_err-numbers-clause-need : goal.returns-in_err-numbers-clause-need
returns-in_err-numbers-clause-need c = λ count head inside.
    let lies = numbers_inside c.args.source.now.counted.now c.args.at (count ∷ []) head in
    absurd (omega (arith, lies, c.in_err-numbers.ensures.fault))

pub returns-then-length-at-clause-need : goal.returns-then-length-at-clause-need
returns-then-length-at-clause-need c = λ count head inside.
    let numbers = c.in_ok-numbers.numbers in
    let same : get_or numbers 0 0 ≡ count =
    ap (λ (ns : List ℕ). get_or ns 0 0)
    (same_numbers c.args.source.now.counted.now c.args.at numbers (count ∷ []) (search rules) c.in_ok-numbers.ensures.stand head) in
    let over : length c.args.source.now.counted.now < c.args.at + 4 + c.args.size * get_or numbers 0 0 = search rules in
    absurd (omega (arith, inside, rw same at over))
