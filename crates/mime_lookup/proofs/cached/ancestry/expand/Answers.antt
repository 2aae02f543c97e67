use Rattle.std.proofs.Common.{sym, ap, append-nil, [], arith}
use Rattle.std.proofs.lemmas.Result.{MatchResult-weaker, err_from_is_err_and, on_ok_weaker}
use Rattle.mime_base.specs.Cache.Bytes.{field}
use Rattle.mime_base.specs.Database.{pairs_of}
use Rattle.mime_view.specs.declared.budget.Budget.{Budget}
use Rattle.mime_lookup.specs.Ancestry.{kinds_of}
use Rattle.mime_lookup.specs.Searching.{marked_by}
use Rattle.mime_lookup.proofs.AncestryLemmas.PairsLeft.{asked_falls, due_left}
use Rattle.mime_lookup.proofs.AncestryLemmas.ParentSteps.{asked, came, expanded_by}
use Rattle.mime_lookup.proofs.cached.ancestry.expand.Goals as goal

pub returns-in_err-found-clause-takes : goal.returns-in_err-found-clause-takes
returns-in_err-found-clause-takes c = λ b spells.
    let found = rw c.cache.ensures.cache at c.in_err-found.ensures in
    let gives = found.answer spells.offsets b.parents spells.header spells.parents in
    let least = due_left b.parents (marked_by c.args.indexed.now c.args.marks.now) c.args.kind.now in
    let p = err_from_is_err_and c.from_residual.result c.from_residual.ensures.1 in
    rw (p.1, p.2) (record { need = λ enough. gives.need (omega (arith, enough, least)); owed = tt })

pub returns-in_default-clause-expanded : goal.returns-in_default-clause-expanded
returns-in_default-clause-expanded c = λ b spells.
    let cache = c.args.indexed.now in
    let found = rw c.cache.ensures.cache at c.in_ok-found.ensures in
    let gives = found.answer spells.offsets b.parents spells.header spells.parents in
    let is = asked cache (field cache 0 2) b.parents spells.parents.kinds c.args.kind.now c.args.marks.now c.parents_of.new.marks
    _ _ c.in_ok-found.found gives.answer found.taken in
    expanded_by (pairs_of b) c.args.kind.now (marked_by cache c.args.marks.now) (marked_by cache c.parents_of.new.marks) []
    c.args.queue.now c.args.queue.now
    (rw (ap came c.in_default.is) at is) (sym (append-nil c.args.queue.now))

pub returns-clause-expanded : goal.returns-clause-expanded
returns-clause-expanded c = λ b spells.
    let cache = c.args.indexed.now in
    let found = rw c.cache.ensures.cache at c.in_ok-found.ensures in
    let gives = found.answer spells.offsets b.parents spells.header spells.parents in
    let is = asked cache (field cache 0 2) b.parents spells.parents.kinds c.args.kind.now c.args.marks.now c.parents_of.new.marks
    _ _ c.in_ok-found.found gives.answer found.taken in
    let given = rw (ap came c.in-Some.is, sym c.as_slice.ensures) at is in
    MatchResult-weaker c.push_unaliased.result (c.push_unaliased.ensures.queue b spells)
    (λ _ grown. expanded_by (pairs_of b) c.args.kind.now (marked_by cache c.args.marks.now) (marked_by cache c.parents_of.new.marks)
    (kinds_of c.as_slice.result.now) c.args.queue.now c.push_unaliased.new.queue given grown)
    (λ e memory. tt)

pub returns-clause-takes : goal.returns-clause-takes
returns-clause-takes c = λ b spells.
    let cache = c.args.indexed.now in
    let found = rw c.cache.ensures.cache at c.in_ok-found.ensures in
    let gives = found.answer spells.offsets b.parents spells.header spells.parents in
    let is = asked cache (field cache 0 2) b.parents spells.parents.kinds c.args.kind.now c.args.marks.now c.parents_of.new.marks
    _ _ c.in_ok-found.found gives.answer found.taken in
    let falls = rw c.in-Some.is at (asked_falls b.parents c.args.kind.now (marked_by cache c.args.marks.now)
    (marked_by cache c.parents_of.new.marks) (came c.in_ok-found.found) is) in
    let taken = rw c.in-Some.is at found.taken in
    let same = ap (λ (budget : Budget). budget.records) c.push_unaliased.ensures.budget in
    record {
      need = λ enough. MatchResult-weaker c.push_unaliased.result (c.push_unaliased.ensures.queue b spells) (λ _ grown. tt)
          (λ e memory. memory);
      owed = on_ok_weaker c.push_unaliased.result (λ _. omega (arith, taken.taken, falls, same)) c.push_unaliased.ensures.longer;
    }
