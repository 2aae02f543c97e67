use Rattle.std.proofs.Common.{◌≡◌, ◌++◌, List, ap, sym, subst, ◌∙◌}
use Rattle.std.specs.List.{All}
use Rattle.mime_base.specs.Kept.{FitsRank}
use Rattle.mime_base.specs.declared.database.lent.LentRule.{LentRule}
use Rattle.mime_load.specs.Lent.{plain_rules}
use Rattle.mime_load.proofs.EndedTrees.{all_left, all_right}
use Rattle.mime_names.specs.Index.{PlainRules}
use Rattle.mime_lookup.proofs.read_back.rules.unaliased_rules.Goals as goal

pub with_rules-requires-clause-limits : goal.with_rules-requires-clause-limits
with_rules-requires-clause-limits c =
    let lists = c.args.lists in
    subst (λ (rules : List LentRule). All FitsRank (plain_rules rules)) (sym c.deref.ensures.value)
    (all_left FitsRank (plain_rules lists.literals.items) (lists.leaves ++ plain_rules lists.globs.items) c.requires.limits)

pub with_leaves-requires-clause-limits : goal.with_leaves-requires-clause-limits
with_leaves-requires-clause-limits c =
    let lists = c.args.lists in
    let parts = c.into_parts-leaves.result in
    let text : c.in_ok-rules.rules.patterns ≡ parts.patterns.items =
    c.in_ok-rules.ensures.patterns ∙ ap (λ (none : PlainRules). none.patterns) c.in_ok-none.ensures in
    let rest = all_right FitsRank (plain_rules lists.literals.items) (lists.leaves ++ plain_rules lists.globs.items) c.requires.limits in
    rw (c.deref-2.ensures.value, text, c.into_parts-leaves.ensures.rules)
    (all_left FitsRank lists.leaves (plain_rules lists.globs.items) rest)

pub with_rules-requires-2-clause-limits : goal.with_rules-requires-2-clause-limits
with_rules-requires-2-clause-limits c =
    let lists = c.args.lists in
    subst (λ (rules : List LentRule). All FitsRank (plain_rules rules)) (sym c.deref-3.ensures.value)
    (all_right FitsRank lists.leaves (plain_rules lists.globs.items)
    (all_right FitsRank (plain_rules lists.literals.items) (lists.leaves ++ plain_rules lists.globs.items) c.requires.limits))
