use Rattle.std.proofs.Common.{ℕ, ◌∷◌, ◌++◌, [], List, length, refl, sym, ap, true≢false, ◌∙◌, arith}
use Rattle.mime_lookup.specs.Places.{placed}
use Rattle.mime_lookup.specs.Ancestry.{is_among, unmarked}
use Rattle.mime_lookup.specs.IndexBytes.{search_bytes}
use Rattle.mime_lookup.proofs.AncestryLemmas.SearchBytes.{search-found, search-more}
use Rattle.mime_lookup.proofs.AncestryLemmas.Searches.{searched_all, searched_found, searched_more, searched_start}
use Rattle.mime_lookup.proofs.ancestry.is_a.Goals as goal

pub loop-here-init : goal.loop-here-init
loop-here-init c =
    let pairs = placed c.args.both.now in
    let first = c.in_ok-push_back.ensures.added ∙ ap (λ (queue : List (List ℕ)). queue ++ c.args.kind.now ∷ []) c.new-queue.ensures in
    record {
      nodes = refl;
      bytes =
          omega (
            arith,
            ap (λ (queue : List (List ℕ)).
                search_bytes (length queue) (unmarked pairs.parents (is_among c.args.marks.now.keys)) (length c.args.base.now)) first,
          );
      searched = λ none. rw first (searched_start pairs c.args.base.now c.args.kind.now (is_among c.args.marks.now.keys) none);
    }

pub returns-then-is_by_itself-clause-answer : goal.returns-then-is_by_itself-clause-answer
returns-then-is_by_itself-clause-answer c = record {
  answer = λ none. (
    (λ _. searched_found (placed c.args.both.now) c.args.base.now c.args.kind.now
        (is_among c.loop-here.marks.keys) c.in-Some.here.now c.pop_front.new.self
        (rw c.in-Some.ensures.taken at (c.loop-here.invariant.searched none))
        (sym c.is_by_itself.ensures.answer ∙ c.if-is_by_itself.true)),
    (λ _. refl),
  );
  marked = λ none is. absurd (true≢false is);
}

pub loop-here-preserved : goal.loop-here-preserved
loop-here-preserved c = record {
  nodes = c.is_by_itself.ensures.compares.nodes ∙ c.loop-here.invariant.nodes;
  bytes =
      search-more (length c.args.base.now) (length c.loop-here.queue) (length c.pop_front.new.self)
      (unmarked (placed c.args.both.now).parents (is_among c.loop-here.marks.keys)) c.args.meter.now.bytes c.loop-here.meter.bytes
      c.is_by_itself.new.meter.bytes _ (omega (arith, ap length c.in-Some.ensures.taken)) c.loop-here.invariant.bytes
      c.is_by_itself.ensures.compares.bytes _ _ c.in_ok-expand.ensures.falls;
  searched = λ none.
      searched_more (placed c.args.both.now) c.args.base.now c.args.kind.now
      (is_among c.loop-here.marks.keys) (is_among c.expand.new.marks.keys) c.in-Some.here.now
      c.pop_front.new.self c.expand.new.queue
      (rw c.in-Some.ensures.taken at (c.loop-here.invariant.searched none))
      (sym c.is_by_itself.ensures.answer ∙ c.if-is_by_itself.false)
      c.in_ok-expand.ensures.expanded;
}

pub returns-clause-answer : goal.returns-clause-answer
returns-clause-answer c =
    let marked = is_among c.loop-here.marks.keys in
    let left = c.in_default.ensures.taken.0 in
    record {
      answer = λ none.
          let all = searched_all (placed c.args.both.now) c.args.base.now c.args.kind.now marked
          (rw left at (c.loop-here.invariant.searched none)) in
          ((λ is. absurd (true≢false (sym is))), (λ is_a. absurd (all.0 is_a)));
      marked = λ none _.
          (searched_all (placed c.args.both.now) c.args.base.now c.args.kind.now marked
          (rw left at (c.loop-here.invariant.searched none))).1;
    }

pub returns-then-is_by_itself-clause-left : goal.returns-then-is_by_itself-clause-left
returns-then-is_by_itself-clause-left c =
    search-found (length c.args.base.now) (length c.loop-here.queue) (length c.pop_front.new.self)
    (unmarked (placed c.args.both.now).parents (is_among c.loop-here.marks.keys)) c.args.meter.now.bytes c.loop-here.meter.bytes
    c.is_by_itself.new.meter.bytes _ (omega (arith, ap length c.in-Some.ensures.taken)) c.loop-here.invariant.bytes
    c.is_by_itself.ensures.compares.bytes

pub returns-then-is_by_itself-clause-bytes : goal.returns-then-is_by_itself-clause-bytes
returns-then-is_by_itself-clause-bytes c =
    let left =
    search-found (length c.args.base.now) (length c.loop-here.queue) (length c.pop_front.new.self)
    (unmarked (placed c.args.both.now).parents (is_among c.loop-here.marks.keys)) c.args.meter.now.bytes c.loop-here.meter.bytes
    c.is_by_itself.new.meter.bytes _ (omega (arith, ap length c.in-Some.ensures.taken)) c.loop-here.invariant.bytes
    c.is_by_itself.ensures.compares.bytes in
    omega (arith, left)

pub returns-in_err-expand-clause-bytes : goal.returns-in_err-expand-clause-bytes
returns-in_err-expand-clause-bytes c =
    let left =
    search-found (length c.args.base.now) (length c.loop-here.queue) (length c.pop_front.new.self)
    (unmarked (placed c.args.both.now).parents (is_among c.loop-here.marks.keys)) c.args.meter.now.bytes c.loop-here.meter.bytes
    c.is_by_itself.new.meter.bytes _ (omega (arith, ap length c.in-Some.ensures.taken)) c.loop-here.invariant.bytes
    c.is_by_itself.ensures.compares.bytes in
    omega (arith, left)

pub returns-clause-left : goal.returns-clause-left
returns-clause-left c =
    let none = ap (λ (queue : List (List ℕ)).
    search_bytes (length queue) (unmarked (placed c.args.both.now).parents (is_among c.loop-here.marks.keys)) (length c.args.base.now))
    c.in_default.ensures.taken.0 in
    omega (arith, c.loop-here.invariant.bytes, none)

pub returns-clause-bytes : goal.returns-clause-bytes
returns-clause-bytes c = omega (arith, c.loop-here.invariant.bytes)
