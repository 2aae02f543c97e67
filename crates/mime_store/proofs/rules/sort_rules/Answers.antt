use Rattle.std.proofs.Common.{rules}
use Rattle.std.proofs.lemmas.List.Sorted.{ranks_by, answers_always}
use Rattle.std.proofs.lemmas.Cmp.{nat_list_cmp_total}
use Rattle.mime_base.specs.Format.Sorted.{text_lt}
use Rattle.mime_base.specs.Format.Stored.{stored_text}
use Rattle.mime_store.specs.Views.{rule_of}
use Rattle.mime_store.specs.declared.stored_rule.StoredRule.{StoredRule}
use Rattle.mime_store.proofs.RulesLemmas.Sorting.{sorted_by_own_text}
use Rattle.mime_store.proofs.rules.sort_rules.Goals as goal

pub returns : goal.returns
returns c =
    let ranks = ranks_by nat_list_cmp_total (λ (stored : StoredRule). stored.text.items) in
    sorted_by_own_text rule_of stored_text (λ (stored : StoredRule). stored.text.items)
    (λ stored. stored.is_stored) _ _ c.in_ok-sort_by.ensures.permutation
    (c.in_ok-sort_by.ensures.sorted (λ a b. text_lt a.text.items b.text.items) ranks (answers_always _ _ _ (λ f a r f' q. search rules)))
    (c.in_ok-sort_by.ensures.stable (λ a b. text_lt a.text.items b.text.items) ranks (answers_always _ _ _ (λ f a r f' q. search rules)))
