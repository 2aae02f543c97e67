use Rattle.std.proofs.Common.{List, ap, subst, ◌∙◌}
use Rattle.mime_names.specs.Index.{PlainIndex}
use Rattle.mime_load.specs.Lent.{plain_pairs}
use Rattle.mime_load.specs.NameLists.{listed_rules}
use Rattle.mime_load.specs.declared.pair.LentPair.{LentPair}
use Rattle.mime_lookup.specs.ReadBack.{AreTargets}
use Rattle.mime_lookup.proofs.SpellingLemmas.ReadLists.{ranks, rules_of_lists, targets_of_lists}
use Rattle.mime_lookup.proofs.SpellingLemmas.Targets.{rules_by_targets}
use Rattle.mime_lookup.proofs.read_back.names.IndexedNames.new.Goals as goal

pub unaliased_rules-requires-clause-limits : goal.unaliased_rules-requires-clause-limits
unaliased_rules-requires-clause-limits c = ranks c.args.counted c.args.lists c.requires

pub invariant_of-result : goal.invariant_of-result
invariant_of-result c =
    let lists = c.args.lists in
    let targets = c.in_ok-targets.targets in
    let are : AreTargets (plain_pairs lists.aliases.items) targets =
    subst (λ (pairs : List LentPair). AreTargets (plain_pairs pairs) targets) c.deref.ensures.value c.in_ok-targets.ensures.are in (
      rules_of_lists c.args.counted lists c.requires c.in_ok-index.index
          (ap (λ (index : PlainIndex). index.given) c.in_ok-index.ensures ∙ c.in_ok-rules.ensures.given
          ∙ rules_by_targets (plain_pairs lists.aliases.items) targets are (listed_rules lists))
          (ap (λ (index : PlainIndex). index.own) c.in_ok-index.ensures ∙ c.in_ok-rules.ensures.own),
      targets_of_lists c.args.counted lists c.requires targets c.in_ok-targets.ensures.valid are,
    )
