use Rattle.std.proofs.Common.{List, map, subst}
use Rattle.mime_base.specs.Database.Subclass.{parents}
use Rattle.mime_load.specs.Lent.{plain_pairs}
use Rattle.mime_load.specs.declared.pair.LentPair.{LentPair}
use Rattle.mime_lookup.specs.PairsReadBack.{AreSteps}
use Rattle.mime_lookup.specs.ReadBack.{AreTargets, target_in}
use Rattle.mime_lookup.proofs.SpellingLemmas.ReadPairs.{pairs_steps, pairs_targets}
use Rattle.mime_lookup.proofs.read_back.pairs.IndexedPairs.new.Goals as goal

pub invariant_of-result : goal.invariant_of-result
invariant_of-result c =
    let lists = c.args.lists.now in
    let targets = c.in_ok-targets.targets in
    let are : AreTargets (plain_pairs lists.aliases.items) targets =
    subst (λ (pairs : List LentPair). AreTargets (plain_pairs pairs) targets) c.deref.ensures.value c.in_ok-targets.ensures.are in
    let steps = c.in_ok-steps.steps in
    let stepped : AreSteps (λ kind. map (target_in targets) (parents (plain_pairs lists.parents.items) kind)) steps =
    subst (λ (pairs : List LentPair). AreSteps (λ kind. map (target_in targets) (parents (plain_pairs pairs) kind)) steps)
    c.deref-2.ensures.value c.in_ok-steps.ensures.are in (
      pairs_targets c.args.counted lists c.requires targets are c.in_ok-targets.ensures.valid,
      pairs_steps c.args.counted lists c.requires targets are steps c.in_ok-steps.ensures.valid stepped,
    )
