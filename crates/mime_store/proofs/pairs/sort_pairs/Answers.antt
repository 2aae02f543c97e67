use Rattle.std.proofs.Common.{rules}
use Rattle.std.proofs.lemmas.List.Sorted.{ranks_by, answers_always}
use Rattle.std.proofs.lemmas.Cmp.{nat_list_cmp_total}
use Rattle.mime_base.specs.Format.Runs.{first_text}
use Rattle.mime_base.specs.Format.Sorted.{text_lt}
use Rattle.mime_store.specs.Views.{pair_texts}
use Rattle.mime_store.specs.declared.text_pair.TextPair.{TextPair}
use Rattle.mime_store.proofs.RulesLemmas.Sorting.{sorted_by_text}
use Rattle.mime_store.proofs.pairs.sort_pairs.Goals as goal

pub returns : goal.returns
returns c =
    let ranks = ranks_by nat_list_cmp_total (λ (pair : TextPair). pair.first.now) in
    sorted_by_text pair_texts first_text _ _ c.in_ok-sort_by.ensures.permutation
    (c.in_ok-sort_by.ensures.sorted (λ a b. text_lt a.first.now b.first.now) ranks (answers_always _ _ _ (λ f a r f' q. search rules)))
    (c.in_ok-sort_by.ensures.stable (λ a b. text_lt a.first.now b.first.now) ranks (answers_always _ _ _ (λ f a r f' q. search rules)))
