use Rattle.std.proofs.Common.{length, ap, ◌∙◌}
use Rattle.std.proofs.lemmas.List.{take_all}
use denote.Bor.{Bor}
use Rattle.mime_names.specs.declared.indexed_rule.IndexedRule.{IndexedRule}
use Rattle.mime_names.proofs.FirstLemmas.{best-at_first, best-none}
use Rattle.mime_names.proofs.ranked.count_best.Goals as goal

pub returns-in_default : goal.returns-in_default
returns-in_default c = λ found sorted. best-none (λ (rule : Bor IndexedRule). rule.now.rank) c.args.rules.now found c.in_default.ensures.value sorted

pub returns : goal.returns
returns c = λ found sorted.
    let all = take_all c.loop-rule.rule-index c.args.rules.now c.loop-rule-test.false in
    rw all at c.loop-rule.invariant.counted
    ∙ ap length (best-at_first (λ (rule : Bor IndexedRule). rule.now.rank) c.in-Some.first.now c.args.rules.now found c.in-Some.ensures.value sorted)
