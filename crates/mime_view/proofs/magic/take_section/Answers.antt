use Rattle.std.proofs.Common.{◌≡◌, ℕ, ◌+◌, List, length, get_or, ap, arith, inl, inr, rules, subst, sym, ◌∙◌}
use Rattle.std.proofs.lemmas.Result.{err_from_is_err_and}
use Rattle.mime_base.specs.Cache.Bytes.{field, fields}
use Rattle.mime_base.specs.Cache.Texts.{text_at}
use Rattle.mime_base.proofs.CacheLemmas.TextsStand.{text_at-read}
use Rattle.mime_view.specs.Compared.{counted_on}
use Rattle.mime_view.specs.Magic.{IsLinesFault, ReadsLines}
use Rattle.mime_view.specs.declared.spending.Spending.{Spending}
use Rattle.mime_view.proofs.MagicLemmas.SectionParts.{section_holds, section_passes}
use Rattle.mime_view.proofs.magic.take_section.Goals as goal

pub returns-then-not-branch-clause-section : goal.returns-then-not-branch-clause-section
returns-then-not-branch-clause-section c = λ section reads.
    let number : (i : ℕ) → get_or c.cards_within.result i 0 ≡ get_or (fields c.args.query.now.counted.now c.args.at 4) i 0 =
    λ i. ap (λ (ns : List ℕ). get_or ns i 0) c.cards_within.ensures.numbers in
    let first : get_or c.cards_within.result 3 0 ≡ field c.args.query.now.counted.now c.args.at 3 = number 3 in
    let lines = subst (λ (n : ℕ). ReadsLines c.args.query.now.counted.now n section.lines) (sym first) reads.lines in
    let step = c.in_ok-some_line_holds.ensures.lines section.lines (sym (number 2 ∙ reads.count)) lines in
    let mid : Spending = record { meter = c.cards_within.new.meter; budget = c.take_record.new.self } in
    section_passes c.args.query.now section c.args.spending.now mid c.some_line_holds.new.spending
    (record { record_taken = c.in_ok-take_record.ensures.taken; value_bytes = c.take_record.ensures.value_bytes; bytes = c.cards_within.ensures.bytes })
    (rw c.if-not-branch.true at step)

pub returns-clause-section : goal.returns-clause-section
returns-clause-section c = λ section reads.
    let number : (i : ℕ) → get_or c.cards_within.result i 0 ≡ get_or (fields c.args.query.now.counted.now c.args.at 4) i 0 =
    λ i. ap (λ (ns : List ℕ). get_or ns i 0) c.cards_within.ensures.numbers in
    let first : get_or c.cards_within.result 3 0 ≡ field c.args.query.now.counted.now c.args.at 3 = number 3 in
    let name : get_or c.cards_within.result 1 0 ≡ field c.args.query.now.counted.now c.args.at 1 = number 1 in
    let lines = subst (λ (n : ℕ). ReadsLines c.args.query.now.counted.now n section.lines) (sym first) reads.lines in
    let step = c.in_ok-some_line_holds.ensures.lines section.lines (sym (number 2 ∙ reads.count)) lines in
    let mid : Spending = record { meter = c.cards_within.new.meter; budget = c.take_record.new.self } in
    let kind : c.in_ok-text.text.now ≡ section.kind = cc (name, reads.kind, c.in_ok-text.ensures.text) in
    let read = text_at-read c.args.query.now.counted.now _ c.in_ok-text.text.now c.in_ok-text.ensures.text in
    let named : c.text_at-found.new.meter.bytes ≡ counted_on c.some_line_holds.new.spending.meter.bytes (length section.kind + 1) =
    omega (arith, read.2, ap length kind, c.text_at-found.ensures.bytes) in
    let found =
    section_holds c.args.query.now section c.args.spending.now mid c.some_line_holds.new.spending
    (record { record_taken = c.in_ok-take_record.ensures.taken; value_bytes = c.take_record.ensures.value_bytes; bytes = c.cards_within.ensures.bytes })
    c.text_at-found.new.meter (c.in_ok-text.text, get_or c.cards_within.result 0 0) named kind (number 0 ∙ reads.priority) (rw c.if-not-branch.false at step) in
    record { answer = found.answer; need = found.need; takes = found.takes; counted = found.counted }

pub returns-in_err-some_line_holds-clause-ends : goal.returns-in_err-some_line_holds-clause-ends
returns-in_err-some_line_holds-clause-ends c =
    let number : (i : ℕ) → get_or c.cards_within.result i 0 ≡ get_or (fields c.args.query.now.counted.now c.args.at 4) i 0 =
    λ i. ap (λ (ns : List ℕ). get_or ns i 0) c.cards_within.ensures.numbers in
    let p = err_from_is_err_and c.from_residual-in_err-some_line_holds.result c.from_residual-in_err-some_line_holds.ensures.1 in
    let fault : IsLinesFault c.args.query.now.counted.now (field c.args.query.now.counted.now c.args.at 3)
    (field c.args.query.now.counted.now c.args.at 2) 0
    c.args.query.now.content c.args.query.now.host c.some_line_holds.new.spending.budget c.in_err-some_line_holds.field-0.0 =
    rw (number 3, number 2) at c.in_err-some_line_holds.ensures.ends.fault in
    rw (p.1, p.2) (record { fault = inr (inr (inl fault)); cost = search rules })

pub returns-in_err-text-clause-ends : goal.returns-in_err-text-clause-ends
returns-in_err-text-clause-ends c =
    let number : (i : ℕ) → get_or c.cards_within.result i 0 ≡ get_or (fields c.args.query.now.counted.now c.args.at 4) i 0 =
    λ i. ap (λ (ns : List ℕ). get_or ns i 0) c.cards_within.ensures.numbers in
    let p = err_from_is_err_and c.from_residual-in_err-text.result c.from_residual-in_err-text.ensures.1 in
    rw p.1 (record {
      fault = inr (inr (inr (record {
        fault = c.in_err-text.field-0.0;
        no_text = ap (text_at c.args.query.now.counted.now) (sym (c.from-3.ensures ∙ number 1)) ∙ c.in_err-text.ensures.text;
        is = p.2;
      })));
      cost = search rules;
    })

pub returns-then-not-branch-clause-walked : goal.returns-then-not-branch-clause-walked
returns-then-not-branch-clause-walked c =
    let number : (i : ℕ) → get_or c.cards_within.result i 0 ≡ get_or (fields c.args.query.now.counted.now c.args.at 4) i 0 =
    λ i. ap (λ (ns : List ℕ). get_or ns i 0) c.cards_within.ensures.numbers in
    record {
      lies = rw (c.from.ensures ∙ number 3, c.from-2.ensures ∙ number 2) at c.in_ok-check_block.ensures.lies;
      lines = rw (c.if-not-branch.true, number 3, number 2) at c.in_ok-some_line_holds.ensures.walked;
    }

pub returns-clause-walked : goal.returns-clause-walked
returns-clause-walked c =
    let number : (i : ℕ) → get_or c.cards_within.result i 0 ≡ get_or (fields c.args.query.now.counted.now c.args.at 4) i 0 =
    λ i. ap (λ (ns : List ℕ). get_or ns i 0) c.cards_within.ensures.numbers in (
      record {
        lies = rw (c.from.ensures ∙ number 3, c.from-2.ensures ∙ number 2) at c.in_ok-check_block.ensures.lies;
        lines = rw (c.if-not-branch.false, number 3, number 2) at c.in_ok-some_line_holds.ensures.walked;
      },
      record {
        kind = ap (text_at c.args.query.now.counted.now) (sym (c.from-3.ensures ∙ number 1)) ∙ c.in_ok-text.ensures.text;
        priority = number 0;
      },
    )
