use Rattle.std.proofs.Common.{rules, ℕ}
use Rattle.std.proofs.lemmas.List.Sorted.{answers_always}
use Rattle.mime_base.specs.declared.database.lent.LentRule.{LentRule}
use Rattle.mime_base.proofs.FallingLemmas.Sorting.{before, before_order, sorted_falling}
use Rattle.mime_tool.proofs.explain.rules.by_rank.Goals as goal

pub returns : goal.returns
returns c =
    let number = λ (offer : ℕ × LentRule). offer.0 in
    sorted_falling number c.args.offers.items c.sort_by.new.self.items
    (c.in_ok-sort_by.ensures.sorted (before number) (before_order number) (answers_always _ _ _ (λ f a r f' q. search rules)))
    (c.sort_by.ensures.stable (before number) (before_order number) (answers_always _ _ _ (λ f a r f' q. search rules)))
