use Rattle.std.proofs.Common.{rules}
use Rattle.std.proofs.lemmas.List.Sorted.{ranks_by, answers_always}
use Rattle.std.proofs.lemmas.Cmp.{nat_list_cmp_total}
use Rattle.mime_base.specs.Format.Sorted.{text_lt}
use Rattle.mime_store.specs.SuffixTree.{ending_path}
use Rattle.mime_store.proofs.SuffixTreeLemmas.Rooted.{sorted_endings}
use Rattle.mime_store.proofs.suffix_tree.sort_endings.Goals as goal

pub returns : goal.returns
returns c =
    let ranks = ranks_by nat_list_cmp_total ending_path in
    sorted_endings _ _ c.in_ok-sort_by.ensures.permutation
    (c.in_ok-sort_by.ensures.sorted (λ a b. text_lt (ending_path a) (ending_path b)) ranks (answers_always _ _ _ (λ f a r f' q. search rules)))
    (c.in_ok-sort_by.ensures.stable (λ a b. text_lt (ending_path a) (ending_path b)) ranks (answers_always _ _ _ (λ f a r f' q. search rules)))
