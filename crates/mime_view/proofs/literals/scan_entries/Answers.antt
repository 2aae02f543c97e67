use Rattle.std.proofs.Common.{sym, ◌∙◌, arith}
use Rattle.mime_view.proofs.LiteralLemmas.LiteralRuns.{ended, next}
use Rattle.mime_view.proofs.HitsLemmas.ListParts.{entry_within}
use Rattle.mime_view.proofs.HitsLemmas.Parts.{searches_within}
use Rattle.mime_view.proofs.HitsLemmas.Steps.{searches_err, searches_none, searches_ok, searches_then}
use Rattle.mime_view.proofs.literals.scan_entries.Goals as goal

pub loop-i-init : goal.loop-i-init
loop-i-init c = record {
  left = λ rules size reads run. record {
    left = rules;
    size = size;
    reads = reads;
    run = run;
    literal = λ ok. ok;
    whole = λ new result scan. scan;
  };
  searches = searches_none c.args.progress.now;
}

pub loop-i-preserved : goal.loop-i-preserved
loop-i-preserved c = record {
  left = λ rules size reads run.
      let n = next (c.loop-i.invariant.left rules size reads run) c.loop-i-test.true in
      let visit = c.in_ok-visit_entry.ensures in
      n.later c.visit_entry.new.progress (sym (visit.same n.rule n.reads) ∙ c.if-not-branch.false)
      (rw (sym c.if-not-branch.false) (visit.finds n.rule n.reads));
  searches = searches_ok (searches_then c.loop-i.invariant.searches (searches_within
      (entry_within c.args.query.now.counted.now c.args.first c.args.count c.loop-i.i c.loop-i-test.true)
      c.in_ok-visit_entry.ensures.searches) (omega arith));
}

pub returns-in_err-visit_entry-clause-finds : goal.returns-in_err-visit_entry-clause-finds
returns-in_err-visit_entry-clause-finds c = λ rules size reads run.
    let n = next (c.loop-i.invariant.left rules size reads run) c.loop-i-test.true in
    let visit = c.in_err-visit_entry.ensures in
    n.stops c.visit_entry.new.progress _ c.from_residual.result c.from_residual.ensures.1 (visit.finds n.rule n.reads)

pub returns-in_err-visit_entry-clause-searches : goal.returns-in_err-visit_entry-clause-searches
returns-in_err-visit_entry-clause-searches c =
    searches_err c.from_residual.result c.from_residual.ensures.1
    (searches_then {k = 0} c.loop-i.invariant.searches (searches_within
    (entry_within c.args.query.now.counted.now c.args.first c.args.count c.loop-i.i c.loop-i-test.true)
    c.in_err-visit_entry.ensures.searches) (omega arith))

pub returns-then-not-branch-clause-finds : goal.returns-then-not-branch-clause-finds
returns-then-not-branch-clause-finds c = λ rules size reads run.
    let n = next (c.loop-i.invariant.left rules size reads run) c.loop-i-test.true in
    let visit = c.in_ok-visit_entry.ensures in
    n.ends c.visit_entry.new.progress (sym (visit.same n.rule n.reads) ∙ c.if-not-branch.true)
    (rw (sym c.if-not-branch.true) (visit.finds n.rule n.reads))

pub returns-clause-finds : goal.returns-clause-finds
returns-clause-finds c = λ rules size reads run. ended (c.loop-i.invariant.left rules size reads run) c.loop-i-test.false

pub returns-then-not-branch-clause-searches : goal.returns-then-not-branch-clause-searches
returns-then-not-branch-clause-searches c =
    searches_ok (searches_then {k = 0} c.loop-i.invariant.searches (searches_within
    (entry_within c.args.query.now.counted.now c.args.first c.args.count c.loop-i.i c.loop-i-test.true)
    c.in_ok-visit_entry.ensures.searches) (omega arith))
