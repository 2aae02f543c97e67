use Rattle.std.proofs.Common.{◌≡◌, ◌∙◌, ◌+◌, ◌*◌, ℕ, List, ap, arith, below_more, false, get_or, inr, length, subst}
use Rattle.std.proofs.lemmas.Result.{err_from_is_err_and}
use Rattle.mime_base.specs.Cache.Bytes.{field}
use Rattle.mime_view.specs.Walked.{WalksSection}
use Rattle.mime_view.specs.Magic.{IsSectionFault, magic_price}
use Rattle.mime_view.proofs.CostLemmas.Costs.{spends_then}
use Rattle.mime_view.proofs.MagicLemmas.LinesAsked.{asks_section}
use Rattle.mime_view.proofs.MagicLemmas.SectionsLeft.{ended, next}
use Rattle.mime_view.proofs.magic.sniff_sections.Goals as goal

pub returns-in_err-found-clause-sections : goal.returns-in_err-found-clause-sections
returns-in_err-found-clause-sections c = λ sections reads.
    let n = next (c.loop-i.invariant.left sections reads) c.loop-i-test.true in
    n.stops c.take_section.new.spending _ c.from_residual-in_err-found.result c.from_residual-in_err-found.ensures.1
    (c.in_err-found.ensures.section n.section n.reads)

pub returns-in-Some-clause-sections : goal.returns-in-Some-clause-sections
returns-in-Some-clause-sections c = λ sections reads.
    let n = next (c.loop-i.invariant.left sections reads) c.loop-i-test.true in
    n.found c.take_section.new.spending c.in-Some.found (rw c.in-Some.is at (c.in_ok-found.ensures.section n.section n.reads))

pub loop-i-preserved : goal.loop-i-preserved
loop-i-preserved c = record {
  left = λ sections reads.
      let n = next (c.loop-i.invariant.left sections reads) c.loop-i-test.true in
      n.later c.take_section.new.spending (rw c.in-None.is at (c.in_ok-found.ensures.section n.section n.reads));
  fails = below_more
      (λ (k : ℕ). WalksSection c.args.query.now.counted.now c.args.query.now.content c.args.query.now.host false (c.from-first.result + 16 * k))
      c.loop-i.i c.loop-i.invariant.fails (rw c.in-None.is at c.in_ok-found.ensures.walked);
  asked =
      let count : get_or c.in_ok-count.field-0 0 0 ≡ field c.args.query.now.counted.now c.args.at 0 =
      ap (λ (ns : List ℕ). get_or ns 0 0) c.in_ok-count.ensures.numbers.1
      ∙ ap (λ (n : ℕ). field c.args.query.now.counted.now n 0) c.from.ensures in
      let first : get_or c.in_ok-count.field-0 2 0 ≡ field c.args.query.now.counted.now c.args.at 2 =
      ap (λ (ns : List ℕ). get_or ns 2 0) c.in_ok-count.ensures.numbers.1
      ∙ ap (λ (n : ℕ). field c.args.query.now.counted.now n 2) c.from.ensures in
      asks_section c.args.query.now.counted.now c.args.at _ c.loop-i.i _ _ _ (c.from-first.ensures ∙ first)
      (omega (arith, c.loop-i-test.true, c.from-count.ensures, count)) c.loop-i.invariant.asked c.take_section.ensures.asked;
  cost = spends_then (magic_price (length c.args.query.now.content)) 1 0 0 0 c.args.spending.now c.loop-i.spending c.take_section.new.spending
      c.loop-i.invariant.cost c.in_ok-found.ensures.ends.cost;
}

pub returns-clause-sections : goal.returns-clause-sections
returns-clause-sections c = λ sections reads. ended (c.loop-i.invariant.left sections reads) c.loop-i-test.false

pub returns-in_err-found-clause-ends : goal.returns-in_err-found-clause-ends
returns-in_err-found-clause-ends c =
    let p = err_from_is_err_and c.from_residual-in_err-found.result c.from_residual-in_err-found.ensures.1 in
    let count : get_or c.in_ok-count.field-0 0 0 ≡ field c.args.query.now.counted.now c.args.at 0 =
    ap (λ (ns : List ℕ). get_or ns 0 0) c.in_ok-count.ensures.numbers.1
    ∙ ap (λ (n : ℕ). field c.args.query.now.counted.now n 0) c.from.ensures in
    let first : get_or c.in_ok-count.field-0 2 0 ≡ field c.args.query.now.counted.now c.args.at 2 =
    ap (λ (ns : List ℕ). get_or ns 2 0) c.in_ok-count.ensures.numbers.1
    ∙ ap (λ (n : ℕ). field c.args.query.now.counted.now n 2) c.from.ensures in
    let section = subst (λ (n : ℕ). IsSectionFault c.args.query.now.counted.now (n + 16 * c.loop-i.i)
    c.args.query.now.content c.args.query.now.host c.take_section.new.spending.budget c.in_err-found.field-0.0)
    (c.from-first.ensures ∙ first) c.in_err-found.ensures.ends.fault in
    rw (p.1, p.2) (record {
      fault = inr (inr (c.loop-i.i, omega (arith, c.loop-i-test.true, c.from-count.ensures, count), section));
      cost = spends_then (magic_price (length c.args.query.now.content)) 1 0 0 0 c.args.spending.now c.loop-i.spending
          c.take_section.new.spending c.loop-i.invariant.cost c.in_err-found.ensures.ends.cost;
    })

pub returns-in-Some-clause-inside : goal.returns-in-Some-clause-inside
returns-in-Some-clause-inside c =
    let count : get_or c.in_ok-count.field-0 0 0 ≡ field c.args.query.now.counted.now c.args.at 0 =
    ap (λ (ns : List ℕ). get_or ns 0 0) c.in_ok-count.ensures.numbers.1
    ∙ ap (λ (n : ℕ). field c.args.query.now.counted.now n 0) c.from.ensures in
    let first : get_or c.in_ok-count.field-0 2 0 ≡ field c.args.query.now.counted.now c.args.at 2 =
    ap (λ (ns : List ℕ). get_or ns 2 0) c.in_ok-count.ensures.numbers.1
    ∙ ap (λ (n : ℕ). field c.args.query.now.counted.now n 2) c.from.ensures in
    record {
      head = omega (arith, c.in_ok-count.ensures.numbers.0, c.from.ensures);
      sections = rw (c.from-first.ensures ∙ first, c.from-count.ensures ∙ count) at c.in_ok-check_block.ensures.lies;
    }

pub returns-clause-inside : goal.returns-clause-inside
returns-clause-inside c =
    let count : get_or c.in_ok-count.field-0 0 0 ≡ field c.args.query.now.counted.now c.args.at 0 =
    ap (λ (ns : List ℕ). get_or ns 0 0) c.in_ok-count.ensures.numbers.1
    ∙ ap (λ (n : ℕ). field c.args.query.now.counted.now n 0) c.from.ensures in
    let first : get_or c.in_ok-count.field-0 2 0 ≡ field c.args.query.now.counted.now c.args.at 2 =
    ap (λ (ns : List ℕ). get_or ns 2 0) c.in_ok-count.ensures.numbers.1
    ∙ ap (λ (n : ℕ). field c.args.query.now.counted.now n 2) c.from.ensures in
    record {
      head = omega (arith, c.in_ok-count.ensures.numbers.0, c.from.ensures);
      sections = rw (c.from-first.ensures ∙ first, c.from-count.ensures ∙ count) at c.in_ok-check_block.ensures.lies;
    }

pub returns-in-Some-clause-walked : goal.returns-in-Some-clause-walked
returns-in-Some-clause-walked c =
    let count : get_or c.in_ok-count.field-0 0 0 ≡ field c.args.query.now.counted.now c.args.at 0 =
    ap (λ (ns : List ℕ). get_or ns 0 0) c.in_ok-count.ensures.numbers.1
    ∙ ap (λ (n : ℕ). field c.args.query.now.counted.now n 0) c.from.ensures in
    let first : get_or c.in_ok-count.field-0 2 0 ≡ field c.args.query.now.counted.now c.args.at 2 =
    ap (λ (ns : List ℕ). get_or ns 2 0) c.in_ok-count.ensures.numbers.1
    ∙ ap (λ (n : ℕ). field c.args.query.now.counted.now n 2) c.from.ensures in
    let here = rw (c.in-Some.is, c.from-first.ensures ∙ first) at c.in_ok-found.ensures.walked in
    record {
      section = record {
        place = c.loop-i.i;
        within = omega (arith, c.loop-i-test.true, c.from-count.ensures, count);
        holds = here.0;
        before = rw (c.from-first.ensures ∙ first) at c.loop-i.invariant.fails;
      };
      named = here.1;
    }

pub returns-clause-walked : goal.returns-clause-walked
returns-clause-walked c =
    let count : get_or c.in_ok-count.field-0 0 0 ≡ field c.args.query.now.counted.now c.args.at 0 =
    ap (λ (ns : List ℕ). get_or ns 0 0) c.in_ok-count.ensures.numbers.1
    ∙ ap (λ (n : ℕ). field c.args.query.now.counted.now n 0) c.from.ensures in
    let first : get_or c.in_ok-count.field-0 2 0 ≡ field c.args.query.now.counted.now c.args.at 2 =
    ap (λ (ns : List ℕ). get_or ns 2 0) c.in_ok-count.ensures.numbers.1
    ∙ ap (λ (n : ℕ). field c.args.query.now.counted.now n 2) c.from.ensures in
    let fails = rw (c.from-first.ensures ∙ first) at c.loop-i.invariant.fails in
    λ k within. fails k (omega (arith, c.loop-i-test.false, c.from-count.ensures, count, within))
