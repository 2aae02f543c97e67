use Rattle.std.proofs.Common.{rules}
use Rattle.std.proofs.lemmas.List.Sorted.{answers_always}
use denote.Bor.{Bor}
use Rattle.mime_base.proofs.FallingLemmas.Sorting.{before, before_order, sorted_falling}
use Rattle.mime_names.specs.declared.indexed_rule.IndexedRule.{IndexedRule}
use Rattle.mime_names.proofs.ranked.by_rank.Goals as goal

pub returns : goal.returns
returns c =
    let number = λ (rule : Bor IndexedRule). rule.now.rank in
    sorted_falling number c.args.rules.items c.sort_by.new.self.items
    (c.in_ok-sort_by.ensures.sorted (before number) (before_order number) (answers_always _ _ _ (λ f a r f' q. search rules)))
    (c.sort_by.ensures.stable (before number) (before_order number) (answers_always _ _ _ (λ f a r f' q. search rules)))
