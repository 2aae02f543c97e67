use Rattle.std.proofs.Common.{◌∙◌, [], refl, sym, true≢false}
use Rattle.mime_lookup.proofs.AncestryLemmas.Above.{as_parent, never}
use Rattle.mime_lookup.proofs.climb.climb.Goals as goal

pub returns-then-is_by_itself-clause-climbed : goal.returns-then-is_by_itself-clause-climbed
returns-then-is_by_itself-clause-climbed g c pairs is_of =
    ((λ _. (c.loop.invariant.same pairs is_of).1 ([], sym c.is_by_itself.ensures.answer ∙ c.if-is_by_itself.true)), (λ _. refl))

pub returns-in-Nothing-clause-climbed : goal.returns-in-Nothing-clause-climbed
returns-in-Nothing-clause-climbed g c pairs is_of = (
  (λ is. absurd (true≢false (sym is))),
  (λ is_a.
      absurd (never pairs c.loop.here.now c.args.base.now (sym c.is_by_itself.ensures.answer ∙ c.if-is_by_itself.false)
      (rw c.in-Nothing.is at (c.above.ensures pairs is_of)) ((c.loop.invariant.same pairs is_of).0 is_a))),
)

pub loop-preserved : goal.loop-preserved
loop-preserved g c = record {
  nodes = c.is_by_itself.ensures.compares.nodes ∙ c.loop.invariant.nodes;
  same =
      λ pairs is_of.
      let one = as_parent pairs c.loop.here.now c.args.base.now
      (sym c.is_by_itself.ensures.answer ∙ c.if-is_by_itself.false) c.in-One.parent.now
      (rw c.in-One.is at (c.above.ensures pairs is_of)) in
      let same = c.loop.invariant.same pairs is_of in
      ((λ is_a. one.0 (same.0 is_a)), (λ is_a. same.1 (one.1 is_a)));
}
