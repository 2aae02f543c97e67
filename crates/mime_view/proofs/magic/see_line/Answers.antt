use Rattle.std.proofs.Common.{◌≡◌, ℕ, ◌+◌, ◌*◌, List, length, get_or, refl, sym, arith, ap, ◌∙◌}
use Rattle.mime_view.proofs.MagicLemmas.LineValues.{lies_where, line_counted, line_equals, line_stated}
use Rattle.mime_view.proofs.MagicLemmas.LinesAsked.{asks_one}
use Rattle.mime_view.proofs.magic.see_line.Goals as goal

pub returns-clause-line : goal.returns-clause-line
returns-clause-line c = λ own reads.
    let size : get_or c.cards_within.result 3 0 ≡ length own.value =
    ap (λ (ns : List ℕ). get_or ns 3 0) c.cards_within.ensures.numbers ∙ reads.size in
    record {
      answer = rw (sym c.bytes.ensures.same) (line_stated c.args.query.now.counted.now c.args.at own c.cards_within.result
          c.args.query.now.host c.bytes.result.now c.cards_within.ensures.numbers reads c.in_ok-equals.equals c.in_ok-equals.ensures.equal);
      need = λ allowed records bytes. refl;
      takes = record {
        most_records = omega (arith, c.in_ok-take_record.ensures.taken);
        most_value_bytes = omega (arith, c.in_ok-take_value_bytes.ensures.taken);
      };
      counted =
          let here = line_counted c.args.query.now.counted.now c.args.at own c.cards_within.result c.args.query.now.host
          c.bytes.result.now c.cards_within.ensures.numbers reads c.args.spending.now.meter.bytes
          c.value_in_range.new.meter.bytes
          (λ lie. (let counted = rw lie at c.value_in_range.ensures.counts.bytes in omega (arith, counted))) in
          rw (sym c.bytes.ensures.same) (omega (arith, here));
    }

pub returns-clause-equals : goal.returns-clause-equals
returns-clause-equals c = λ yes.
    let equal = c.in_ok-equals.ensures in
    let lie = lies_where _ c.in_ok-equals.equals _ equal.outside equal.needs yes in
    rw (sym c.bytes.ensures.same) (line_equals c.args.query.now.counted.now c.args.at c.cards_within.result c.args.query.now.host
    c.bytes.result.now c.cards_within.ensures.numbers lie (sym (equal.equal lie) ∙ yes))

pub returns-clause-ends : goal.returns-clause-ends
returns-clause-ends c =
    let e : ℕ = length c.args.query.now.content + 1 in
    let v : ℕ = c.take_value_bytes.new.self.value_bytes in
    let taken : c.args.spending.now.budget.value_bytes ≡ v + c.from.result = omega (arith, c.in_ok-take_value_bytes.ensures.taken) in
    let m : e * c.args.spending.now.budget.value_bytes ≡ e * (v + c.from.result) = ap (λ (n : ℕ). e * n) taken in
    let s = ap (λ (n : ℕ). e * n) c.from.ensures in
    let same = ap (λ (bytes : List ℕ). (length bytes + 1) * get_or c.cards_within.result 3 0) c.bytes.ensures.same in
    record {
      fault = tt;
      cost = record {
        records = omega (arith, c.in_ok-take_record.ensures.taken);
        value_bytes = omega arith;
        untouched = λ free. absurd (omega arith);
        rises = omega arith;
        bytes_rise = omega arith;
        most_nodes = omega (arith, c.in_ok-take_record.ensures.taken);
        most_bytes = omega (arith, c.in_ok-equals.ensures.limit, same);
        fair = omega (arith, c.in_ok-take_record.ensures.taken);
      };
    }

pub returns-in_err-equals-clause-asked : goal.returns-in_err-equals-clause-asked
returns-in_err-equals-clause-asked c =
    let size = ap (λ (ns : List ℕ). get_or ns 3 0) c.cards_within.ensures.numbers in
    asks_one c.args.query.now.counted.now c.args.at c.args.spending.now.budget _ (omega (arith, c.in_ok-take_record.ensures.taken))
    (omega (arith, size, c.from.ensures, c.in_ok-take_value_bytes.ensures.taken))

pub returns-clause-asked : goal.returns-clause-asked
returns-clause-asked c =
    let size = ap (λ (ns : List ℕ). get_or ns 3 0) c.cards_within.ensures.numbers in
    asks_one c.args.query.now.counted.now c.args.at c.args.spending.now.budget _ (omega (arith, c.in_ok-take_record.ensures.taken))
    (omega (arith, size, c.from.ensures, c.in_ok-take_value_bytes.ensures.taken))
