-- What the sort gives.
use Rattle.std.proofs.Common.{rules}
use Rattle.std.proofs.lemmas.List.Sorted.{answers_always}
use Rattle.mime_base.specs.declared.magic.Section.{Section}
use Rattle.mime_base.proofs.FallingLemmas.Sorting.{before, before_order, sorted_falling}
use Rattle.mime_text.proofs.merging.priority.by_priority.Goals as goal

pub returns : goal.returns
returns c =
    let priority = λ (section : Section). section.priority in
    sorted_falling priority c.args.sections.items c.sort_by.new.self.items
    (c.in_ok-sort_by.ensures.sorted (before priority) (before_order priority) (answers_always _ _ _ (λ f a r f' q. search rules)))
    (c.sort_by.ensures.stable (before priority) (before_order priority) (answers_always _ _ _ (λ f a r f' q. search rules)))
