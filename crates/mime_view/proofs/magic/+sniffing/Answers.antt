use Rattle.std.proofs.Common.{◌≡◌, ◌+◌, ◌*◌, ◌-◌, ◌<◌, ℕ, suc, true, arith, below_more, inl, inr, refl, rules, sym, subst}
use Rattle.std.proofs.lemmas.Result.{IfErr-weaker, IfOk-weaker, err_from_is_err_and}
use Rattle.mime_base.specs.Cache.Bytes.{field}
use Rattle.mime_base.specs.Magic.{are_allowed, bare, line}
use Rattle.mime_view.specs.Walked.{FailsAt}
use Rattle.mime_view.specs.Magic.{AnswersLines, IsLineFault, ReadsLines, line_price}
use Rattle.mime_view.proofs.CostLemmas.Costs.{spends_then}
use Rattle.mime_view.proofs.MagicLemmas.LineFaults.{fault_below, own_fault}
use Rattle.mime_view.proofs.MagicLemmas.LineParts.{last_level, line_alone, line_differs, line_parent, line_refused}
use Rattle.mime_view.proofs.MagicLemmas.LinesAsked.{asks_next, asks_parent}
use Rattle.mime_view.proofs.MagicLemmas.LinesLeft.{ended, next}
use Rattle.mime_view.proofs.MagicLemmas.WalkedLines.{fails_alone, holds_alone, walks_parent}
use Rattle.mime_view.proofs.magic.+sniffing.Goals as goal

pub whole_line_holds-returns-then-not-equals-clause-line : goal.whole_line_holds-returns-then-not-equals-clause-line
whole_line_holds-returns-then-not-equals-clause-line t c = λ own children reads.
    line_differs c.args.query.now (64 - c.args.level) own children c.args.spending.now c.see_line.new.spending _
    (c.in_ok-equals.ensures.line own reads.0) c.if-not-equals.true

pub whole_line_holds-returns-then-count-eq0-clause-line : goal.whole_line_holds-returns-then-count-eq0-clause-line
whole_line_holds-returns-then-count-eq0-clause-line t c = λ own children reads.
    line_alone c.args.query.now (64 - c.args.level) own children c.args.spending.now c.see_line.new.spending _
    (c.in_ok-equals.ensures.line own reads.0) c.if-not-equals.false
    (omega (arith, reads.1, c.in_ok-equals.ensures.children.count))

pub whole_line_holds-returns-then-level-eq-LAST_LEVEL-clause-line : goal.whole_line_holds-returns-then-level-eq-LAST_LEVEL-clause-line
whole_line_holds-returns-then-level-eq-LAST_LEVEL-clause-line t c = λ own children reads.
    let last : 64 - c.args.level ≡ 1 = omega arith in
    line_refused c.args.query.now (64 - c.args.level) own children c.args.spending.now c.see_line.new.spending _ _
    (c.in_ok-equals.ensures.line own reads.0)
    (λ allowed.
    let none = last_level own children (subst (λ (n : ℕ). are_allowed n (line own children bare) ≡ true) last allowed) in
    omega (arith, none, reads.1, c.in_ok-equals.ensures.children.count))

pub whole_line_holds-returns-clause-line : goal.whole_line_holds-returns-clause-line
whole_line_holds-returns-clause-line t c = λ own children reads.
    let deeper : 64 - c.args.level ≡ suc (64 - (c.args.level + 1)) = omega arith in
    let below = subst (λ (n : ℕ). ReadsLines c.args.query.now.counted.now n children) (sym c.in_ok-equals.ensures.children.first) reads.3 in
    subst
    (λ (n : ℕ). AnswersLines c.args.query.now n (line own children bare) c.args.spending.now
    c.some_child_holds.new.spending c.some_child_holds.result)
    (sym deeper)
    (line_parent c.args.query.now (64 - (c.args.level + 1)) own children c.args.spending.now c.see_line.new.spending
    c.some_child_holds.new.spending _ c.some_child_holds.result (c.in_ok-equals.ensures.line own reads.0) c.if-not-equals.false
    (omega (arith, reads.1, c.in_ok-equals.ensures.children.count))
    (c.some_child_holds.ensures.lines children (omega (arith, reads.1, c.in_ok-equals.ensures.children.count)) below))

pub line_holds-returns-then-differs_at_once-clause-line : goal.line_holds-returns-then-differs_at_once-clause-line
line_holds-returns-then-differs_at_once-clause-line t c = λ own children reads.
    line_differs c.args.query.now (64 - c.args.level) own children c.args.spending.now c.differs_at_once.new.spending _
    (c.differs_at_once.ensures.line c.if-differs_at_once.true own reads.0) refl

pub some_line_holds-returns-in_err-line_holds-clause-lines : goal.some_line_holds-returns-in_err-line_holds-clause-lines
some_line_holds-returns-in_err-line_holds-clause-lines t c = λ lines size reads.
    let n = next (c.loop-i.invariant.left lines size reads) (omega (arith, c.loop-i-test.true)) in
    n.stops c.line_holds.new.spending _ c.from_residual.result c.from_residual.ensures.1
    (c.in_err-line_holds.ensures.line n.own n.children n.reads)

pub some_line_holds-returns-then-branch-clause-lines : goal.some_line_holds-returns-then-branch-clause-lines
some_line_holds-returns-then-branch-clause-lines t c = λ lines size reads.
    let n = next (c.loop-i.invariant.left lines size reads) (omega (arith, c.loop-i-test.true)) in
    n.holds c.line_holds.new.spending (rw c.if-branch.true at (c.in_ok-line_holds.ensures.line n.own n.children n.reads))

pub some_line_holds-loop-i-preserved : goal.some_line_holds-loop-i-preserved
some_line_holds-loop-i-preserved t c = record {
  left = λ lines size reads.
      let n = next (c.loop-i.invariant.left lines size reads) (omega (arith, c.loop-i-test.true)) in
      n.later c.line_holds.new.spending (rw c.if-branch.false at (c.in_ok-line_holds.ensures.line n.own n.children n.reads));
  fails = below_more
      (λ (k : ℕ). FailsAt (63 - c.args.level) c.args.query.now.counted.now c.args.query.now.content c.args.query.now.host
      (c.from-start.result + 32 * k)) c.loop-i.i c.loop-i.invariant.fails
      (rw c.if-branch.false at c.in_ok-line_holds.ensures.walked);
  asked = asks_next c.args.query.now.counted.now c.args.first c.args.count c.args.level _ c.loop-i.i _ _ _ c.from-start.ensures
      (omega (arith, c.loop-i-test.true)) c.loop-i.invariant.asked c.line_holds.ensures.asked;
  cost = spends_then (line_price c.args.query.now) 0 0 0 0 c.args.spending.now c.loop-i.spending c.line_holds.new.spending
      c.loop-i.invariant.cost c.in_ok-line_holds.ensures.ends.cost;
}

pub some_line_holds-returns-clause-lines : goal.some_line_holds-returns-clause-lines
some_line_holds-returns-clause-lines t c = λ lines size reads.
    ended (c.loop-i.invariant.left lines size reads) (omega (arith, c.loop-i-test.false))

pub whole_line_holds-returns-in_err-equals-clause-ends : goal.whole_line_holds-returns-in_err-equals-clause-ends
whole_line_holds-returns-in_err-equals-clause-ends t c =
    let p = err_from_is_err_and c.from_residual.result c.from_residual.ensures.1 in
    rw (p.1, p.2) (record {
      fault = own_fault c.args.query.now.counted.now c.args.at c.args.level _ _ _ _ (omega arith) (inl c.in_err-equals.ensures.ends.fault);
      cost = c.in_err-equals.ensures.ends.cost;
    })

pub whole_line_holds-returns-then-level-eq-LAST_LEVEL-clause-ends : goal.whole_line_holds-returns-then-level-eq-LAST_LEVEL-clause-ends
whole_line_holds-returns-then-level-eq-LAST_LEVEL-clause-ends t c =
    let some : 0 < field c.args.query.now.counted.now c.args.at 6 = omega (arith, c.in_ok-equals.ensures.children.count) in
    record {
      fault = own_fault c.args.query.now.counted.now c.args.at c.args.level _ _ _ _ (omega arith) (inr (inr (record {
        is = refl;
        last = omega arith;
        equals = c.in_ok-equals.ensures.equals c.if-not-equals.false;
        some = some;
      })));
      cost = c.in_ok-equals.ensures.ends.cost;
    }

pub whole_line_holds-returns-in_err-check_block-clause-ends : goal.whole_line_holds-returns-in_err-check_block-clause-ends
whole_line_holds-returns-in_err-check_block-clause-ends t c =
    let p = err_from_is_err_and c.from_residual-in_err-check_block.result c.from_residual-in_err-check_block.ensures.1 in
    let block = c.in_err-check_block.ensures.fault in
    rw (p.1, p.2) (record {
      fault = own_fault c.args.query.now.counted.now c.args.at c.args.level _ _ _ _ (omega arith) (inr (inl (search rules)));
      cost = c.in_ok-equals.ensures.ends.cost;
    })

pub whole_line_holds-returns-clause-ends : goal.whole_line_holds-returns-clause-ends
whole_line_holds-returns-clause-ends t c = record {
  fault = IfErr-weaker c.some_child_holds.result _ _
      (λ e. fault_below c.args.query.now.counted.now c.args.at _ _ c.args.level _ _ _ e
      c.in_ok-equals.ensures.children.count c.in_ok-equals.ensures.children.first)
      c.some_child_holds.ensures.ends.fault;
  cost = spends_then (line_price c.args.query.now) 0 0 0 0 c.args.spending.now c.see_line.new.spending c.some_child_holds.new.spending
      c.in_ok-equals.ensures.ends.cost c.some_child_holds.ensures.ends.cost;
}

pub some_line_holds-returns-in_err-line_holds-clause-ends : goal.some_line_holds-returns-in_err-line_holds-clause-ends
some_line_holds-returns-in_err-line_holds-clause-ends t c =
    let p = err_from_is_err_and c.from_residual.result c.from_residual.ensures.1 in
    let line = subst (λ (n : ℕ). IsLineFault c.args.query.now.counted.now (n + 32 * c.loop-i.i) c.args.level
    c.args.query.now.content c.args.query.now.host c.line_holds.new.spending.budget c.in_err-line_holds.field-0.0)
    c.from-start.ensures c.in_err-line_holds.ensures.ends.fault in
    rw (p.1, p.2) (record {
      fault = (c.loop-i.i, omega (arith, c.loop-i-test.true), line);
      cost = spends_then (line_price c.args.query.now) 0 0 0 0 c.args.spending.now c.loop-i.spending c.line_holds.new.spending
          c.loop-i.invariant.cost c.in_err-line_holds.ensures.ends.cost;
    })

pub whole_line_holds-returns-clause-walked : goal.whole_line_holds-returns-clause-walked
whole_line_holds-returns-clause-walked t c =
    let deeper : 63 - c.args.level ≡ suc (63 - (c.args.level + 1)) = omega arith in
    rw deeper (IfOk-weaker c.some_child_holds.result _ _
    (λ holds. walks_parent (63 - (c.args.level + 1)) _ _ holds c.in_ok-equals.ensures.children.count c.in_ok-equals.ensures.children.first
    (c.in_ok-equals.ensures.equals c.if-not-equals.false) (omega arith) (search rules)) c.some_child_holds.ensures.walked)

pub whole_line_holds-returns-then-not-equals-clause-walked : goal.whole_line_holds-returns-then-not-equals-clause-walked
whole_line_holds-returns-then-not-equals-clause-walked t c =
    fails_alone (63 - c.args.level) (c.in_ok-equals.ensures.differs c.if-not-equals.true)

pub whole_line_holds-returns-then-count-eq0-clause-walked : goal.whole_line_holds-returns-then-count-eq0-clause-walked
whole_line_holds-returns-then-count-eq0-clause-walked t c =
    holds_alone (63 - c.args.level) (c.in_ok-equals.ensures.equals c.if-not-equals.false) (omega (arith, c.in_ok-equals.ensures.children.count))

pub line_holds-returns-then-differs_at_once-clause-walked : goal.line_holds-returns-then-differs_at_once-clause-walked
line_holds-returns-then-differs_at_once-clause-walked t c =
    fails_alone (63 - c.args.level) (c.differs_at_once.ensures.differs c.if-differs_at_once.true)

pub whole_line_holds-returns-clause-asked : goal.whole_line_holds-returns-clause-asked
whole_line_holds-returns-clause-asked t c =
    asks_parent c.args.query.now.counted.now c.args.at _ _ c.args.level _ _ _ (omega arith) c.in_ok-equals.ensures.children.count
    c.in_ok-equals.ensures.children.first c.see_line.ensures.asked c.some_child_holds.ensures.asked
