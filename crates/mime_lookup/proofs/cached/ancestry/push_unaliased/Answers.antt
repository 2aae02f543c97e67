use Rattle.std.proofs.Common.{arith, rules}
use Rattle.mime_base.specs.Database.Subclass.{resolved}
use Rattle.mime_lookup.proofs.AncestryLemmas.Queues.{length-queued, queued-more}
use Rattle.mime_lookup.proofs.cached.ancestry.push_unaliased.Goals as goal

pub returns-in_err-name-clause-queue : goal.returns-in_err-name-clause-queue
returns-in_err-name-clause-queue c = λ b spells.
    absurd (c.in_err-name.ensures.answer spells.offsets b.aliases spells.header spells.aliases)

pub loop-kind-preserved : goal.loop-kind-preserved
loop-kind-preserved c = record {
  queue = λ b spells.
      queued-more (resolved b.aliases) c.args.kinds.now c.args.queue.now c.loop-kind.queue c.push_back.new.self
      c.loop-kind.kind-index c.in_ok-name.name.now _ c.loop-kind-test.true
      (c.in_ok-name.ensures.answer spells.offsets b.aliases spells.header spells.aliases)
      c.in_ok-push_back.ensures.added (c.loop-kind.invariant.queue b spells);
  longer = omega (
    arith,
    c.loop-kind.invariant.longer,
    length-queued c.loop-kind.queue c.push_back.new.self c.in_ok-name.name.now c.in_ok-push_back.ensures.added,
  );
  budget = search rules;
  cost = search rules;
}
