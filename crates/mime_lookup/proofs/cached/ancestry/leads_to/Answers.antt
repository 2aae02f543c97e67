use Rattle.std.proofs.Common.{add-one, length, refl, sym, ap, true≢false, arith, ◌∙◌}
use Rattle.mime_base.specs.Database.{pairs_of}
use Rattle.mime_lookup.specs.Searching.{marked_by}
use Rattle.mime_lookup.proofs.CostLemmas.SearchCosts.{expanded_owing}
use Rattle.mime_lookup.proofs.AncestryLemmas.Searches.{searched_all, searched_found, searched_more}
use Rattle.mime_lookup.proofs.cached.ancestry.leads_to.Goals as goal

pub returns-then-is_by_itself-clause-answer : goal.returns-then-is_by_itself-clause-answer
returns-then-is_by_itself-clause-answer c = λ b spells. record {
  answer = λ none. (
    (λ _. searched_found (pairs_of b) c.args.base.now c.args.kind.now (marked_by c.args.indexed.now c.loop-here.marks)
        c.in-Some.here.now c.pop_front.new.self
        (rw c.in-Some.ensures.taken at (c.loop-here.invariant.searched b spells none))
        (sym c.is_by_itself.ensures.answer ∙ c.if-is_by_itself.true)),
    (λ _. refl),
  );
  marked = λ none is. absurd (true≢false is);
}

pub loop-here-preserved : goal.loop-here-preserved
loop-here-preserved c = record {
  searched = λ b spells none.
      searched_more (pairs_of b) c.args.base.now c.args.kind.now (marked_by c.args.indexed.now c.loop-here.marks)
      (marked_by c.args.indexed.now c.expand.new.marks) c.in-Some.here.now
      c.pop_front.new.self c.expand.new.queue
      (rw c.in-Some.ensures.taken at (c.loop-here.invariant.searched b spells none))
      (sym c.is_by_itself.ensures.answer ∙ c.if-is_by_itself.false)
      (c.in_ok-expand.ensures.expanded b spells);
  owed = λ b spells. omega (arith, c.loop-here.invariant.owed b spells, (c.in_ok-expand.ensures.takes b spells).owed);
  paid =
      expanded_owing (length c.pop_front.new.self) c.args.spending.now c.loop-here.spending c.expand.new.spending
      c.is_by_itself.new.meter (rw (ap length c.in-Some.ensures.taken ∙ sym (add-one (length c.pop_front.new.self))) at c.loop-here.invariant.paid) c.is_by_itself.ensures.compares.nodes
      c.is_by_itself.ensures.compares.rises (omega (arith, c.is_by_itself.ensures.compares.bytes, c.requires.base)) c.expand.ensures.cost
      (length c.expand.new.queue) c.in_ok-expand.ensures.falls;
}

pub returns-clause-answer : goal.returns-clause-answer
returns-clause-answer c = λ b spells.
    let marked = marked_by c.args.indexed.now c.loop-here.marks in
    let left = c.in_default.ensures.taken.0 in
    record {
      answer = λ none.
          let all = searched_all (pairs_of b) c.args.base.now c.args.kind.now marked
          (rw left at (c.loop-here.invariant.searched b spells none)) in
          ((λ is. absurd (true≢false (sym is))), (λ is_a. absurd (all.0 is_a)));
      marked = λ none _.
          (searched_all (pairs_of b) c.args.base.now c.args.kind.now marked
          (rw left at (c.loop-here.invariant.searched b spells none))).1;
    }
