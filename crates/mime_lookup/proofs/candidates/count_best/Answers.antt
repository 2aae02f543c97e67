use Rattle.std.proofs.Common.{ℕ, ◌==◌, length, ap, ◌∙◌}
use Rattle.std.specs.List.{filter}
use Rattle.std.proofs.lemmas.List.{take_all}
use denote.Bor.{Bor}
use Rattle.mime_base.specs.Kept.{rank_of_rule}
use Rattle.mime_base.specs.declared.database.rule.GlobRule.{GlobRule}
use Rattle.mime_names.proofs.FirstLemmas.{best-at_first, best-none}
use Rattle.mime_lookup.proofs.candidates.count_best.Goals as goal

pub returns-in_default : goal.returns-in_default
returns-in_default c = λ found sorted. best-none (λ (rule : Bor GlobRule). rank_of_rule rule.now) c.args.rules.now found c.in_default.ensures.value sorted

pub returns : goal.returns
returns c = λ found sorted.
    let all = take_all c.loop-rule.rule-index c.args.rules.now c.loop-rule-test.false in
    rw all at c.loop-rule.invariant.counted
    ∙ ap (λ (n : ℕ). length (filter (λ (rule : Bor GlobRule). rank_of_rule rule.now == n) c.args.rules.now)) c.rank_of_rule-best.ensures.rank
    ∙ ap length (best-at_first (λ (rule : Bor GlobRule). rank_of_rule rule.now) c.in-Some.first.now c.args.rules.now found c.in-Some.ensures.value sorted)
