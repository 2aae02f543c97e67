use Rattle.std.proofs.Common.{arith, ap, length, sum_by}
use Rattle.std.proofs.lemmas.List.{take_all}
use Rattle.mime_store.proofs.BoundLemmas.Rules.{rule_bound, rules-bounded}
use Rattle.mime_store.proofs.RulesLemmas.Texts.{short_pattern}
use Rattle.mime_store.proofs.bound.take_rules.Goals as goal

pub overflow_mul-pattern : goal.overflow_mul-pattern
overflow_mul-pattern c =
    omega (arith, ap length c.bytes-pattern.ensures.text, short_pattern c.rule-item.result.pattern c.bytes-pattern.ensures.limits)

pub overflow_add-pattern : goal.overflow_add-pattern
overflow_add-pattern c =
    omega (arith, ap length c.bytes-pattern.ensures.text, short_pattern c.rule-item.result.pattern c.bytes-pattern.ensures.limits)

pub returns : goal.returns
returns c =
    let rules = c.args.rules.now in
    omega (
      arith,
      c.loop-rule.invariant,
      ap (sum_by rule_bound) (take_all c.loop-rule.rule-index rules c.loop-rule-test.false),
      rules-bounded rules,
    )
