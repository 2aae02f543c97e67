use Rattle.std.proofs.Common.{◌≡◌, ℕ, List, ap, get_or, length, rules, subst, sym, arith, ◌∙◌}
use Rattle.std.proofs.lemmas.Result.{err_from_is_err_and}
use Rattle.mime_base.specs.Cache.Bytes.{Stands}
use Rattle.mime_base.specs.Format.Records.{TextAt}
use Rattle.mime_load.proofs.SameLemmas.{numbers_inside, same_numbers}
use Rattle.mime_load.proofs.pairs.read_pair.Goals as goal

pub returns-in_err-numbers-clause-need : goal.returns-in_err-numbers-clause-need
returns-in_err-numbers-clause-need c = λ pair stands.
    let lies = numbers_inside c.args.source.now.counted.now c.args.at stands.numbers stands.cards in
    absurd (omega (arith, lies, ap (λ (ns : List ℕ). length ns) stands.is.2, c.in_err-numbers.ensures.fault))

pub returns-in_err-name-clause-need : goal.returns-in_err-name-clause-need
returns-in_err-name-clause-need c = λ pair stands.
    let numbers = c.in_ok-numbers.numbers in
    let size : length numbers ≡ length stands.numbers = search rules in
    let same : get_or numbers 0 0 ≡ stands.is.0 =
    ap (λ (ns : List ℕ). get_or ns 0 0)
    (same_numbers c.args.source.now.counted.now c.args.at numbers stands.numbers size c.in_ok-numbers.ensures.stand stands.cards
    ∙ stands.is.2) in
    let p = err_from_is_err_and c.from_residual-in_err-name.result c.from_residual-in_err-name.ensures.1 in
    rw (p.1, p.2) (c.in_err-name.ensures.need pair.0
    (subst (λ (at : ℕ). TextAt (Stands c.args.source.now.counted.now) at pair.0) (sym same) stands.is.3))

pub returns-in_err-target-clause-need : goal.returns-in_err-target-clause-need
returns-in_err-target-clause-need c = λ pair stands.
    let numbers = c.in_ok-numbers.numbers in
    let size : length numbers ≡ length stands.numbers = search rules in
    let same : get_or numbers 1 0 ≡ stands.is.1 =
    ap (λ (ns : List ℕ). get_or ns 1 0)
    (same_numbers c.args.source.now.counted.now c.args.at numbers stands.numbers size c.in_ok-numbers.ensures.stand stands.cards
    ∙ stands.is.2) in
    let p = err_from_is_err_and c.from_residual-in_err-target.result c.from_residual-in_err-target.ensures.1 in
    rw (p.1, p.2) (c.in_err-target.ensures.need pair.1
    (subst (λ (at : ℕ). TextAt (Stands c.args.source.now.counted.now) at pair.1) (sym same) stands.is.4))
