use Rattle.std.proofs.Common.{◌≡◌, get_or, refl, rules, subst, sym, ◌∙◌, arith, true≢false}
use Rattle.std.proofs.lemmas.Result.{err_from_is_err_and}
use Rattle.mime_base.specs.Cache.Bytes.{Stands}
use Rattle.mime_base.specs.Format.Records.{CardsAt}
use Rattle.mime_base.specs.Format.Stored.{stored_text}
use Rattle.mime_load.proofs.NextRecords.{same_text}
use Rattle.mime_load.proofs.RuleLists.{rule_at}
use Rattle.mime_load.proofs.RulesRead.{rule_inside, rule_read}
use Rattle.mime_load.proofs.StoredPatterns.{as_compared, stored_read}
use Rattle.mime_load.proofs.TreeWalks.{three}
use Rattle.mime_load.proofs.rules.read_rule.Goals as goal
use Rattle.mime_load.proofs.rules.read_rule.Goals.{then-flags-ge512-via-then-flags-ge512, then-flags-ge512-via-else-flags-ge512+then-not-is_as_compared}

pub returns-clause-stands : goal.returns-clause-stands
returns-clause-stands c =
    let numbers = c.in_ok-numbers.numbers in
    rule_at c.args.source.now.counted.now c.args.at (get_or numbers 0 0) (get_or numbers 1 0) (get_or numbers 2 0) _
    (subst (CardsAt (Stands c.args.source.now.counted.now) c.args.at) (three numbers (search rules)) c.in_ok-numbers.ensures.stand)
    (search rules) (search rules) (search rules) c.in_ok-pattern.ensures.stands (as_compared _ c.in_ok-pattern.pattern.now (search rules))
    c.are_bytes.ensures c.in_ok-kind.ensures.stands

pub returns-in_err-numbers-clause-need : goal.returns-in_err-numbers-clause-need
returns-in_err-numbers-clause-need c = λ rule stands limits room.
    absurd (omega (arith, rule_inside c.args.source.now.counted.now c.args.at rule stands, c.in_err-numbers.ensures.fault))

pub returns-in_err-pattern-clause-need : goal.returns-in_err-pattern-clause-need
returns-in_err-pattern-clause-need c = λ rule stands limits room.
    let read = rule_read c.args.source.now.counted.now c.args.at c.in_ok-numbers.numbers rule (search rules) c.in_ok-numbers.ensures.stand
    stands in
    let p = err_from_is_err_and c.from_residual-in_err-pattern.result c.from_residual-in_err-pattern.ensures.1 in
    rw (p.1, p.2) (c.in_err-pattern.ensures.need (stored_text rule) read.text)

pub returns-in_err-kind-clause-need : goal.returns-in_err-kind-clause-need
returns-in_err-kind-clause-need c = λ rule stands limits room.
    let read = rule_read c.args.source.now.counted.now c.args.at c.in_ok-numbers.numbers rule (search rules) c.in_ok-numbers.ensures.stand
    stands in
    let p = err_from_is_err_and c.from_residual-in_err-kind.result c.from_residual-in_err-kind.ensures.1 in
    rw (p.1, p.2) (c.in_err-kind.ensures.need rule.kind read.kind)

pub returns-then-flags-ge512-clause-need : goal.returns-then-flags-ge512-clause-need
returns-then-flags-ge512-clause-need c = λ rule stands limits room.
    let cache = c.args.source.now.counted.now in
    let numbers = c.in_ok-numbers.numbers in
    let read = rule_read cache c.args.at c.in_ok-numbers.numbers rule (search rules) c.in_ok-numbers.ensures.stand stands in
    let text : c.in_ok-pattern.pattern.now ≡ stored_text rule =
    same_text cache (get_or numbers 0 0) (get_or numbers 0 0) c.in_ok-pattern.pattern.now (stored_text rule) refl
    c.in_ok-pattern.ensures.stands read.text in
    let kept = stored_read rule (get_or numbers 2 0) c.in_ok-pattern.pattern.now limits.0 read.flags text in
    absurd (elim c.then-flags-ge512.branch [
      | then-flags-ge512-via-then-flags-ge512 w ↦ omega (arith, kept.small, w.if-flags-ge512.true)
      | then-flags-ge512-via-else-flags-ge512+then-not-is_as_compared w ↦
          true≢false (sym kept.unchanged ∙ sym w.is_as_compared.ensures.test ∙ w.if-not-is_as_compared.true)
    ])
