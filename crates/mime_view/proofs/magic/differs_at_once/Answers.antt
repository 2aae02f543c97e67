use Rattle.std.proofs.Common.{◌≡◌, ℕ, ◌+◌, ◌*◌, List, false, length, get_or, refl, arith, ap, ◌∙◌}
use Rattle.mime_view.proofs.MagicLemmas.LineValues.{line_counted, line_stated}
use Rattle.mime_view.proofs.MagicLemmas.LinesAsked.{asks_one}
use Rattle.mime_view.proofs.magic.differs_at_once.Goals as goal

pub returns-then-differs-clause-line : goal.returns-then-differs-clause-line
returns-then-differs-clause-line c = λ yes own reads.
    let counts = c.differs_at_once-differs.ensures.counts yes c.args.query.now.host in
    let size : get_or c.cards_within.result 3 0 ≡ length own.value =
    ap (λ (ns : List ℕ). get_or ns 3 0) c.cards_within.ensures.numbers ∙ reads.size in
    record {
      answer = line_stated c.args.query.now.counted.now c.args.at own c.cards_within.result c.args.query.now.host
          c.args.query.now.content c.cards_within.ensures.numbers reads false
          (λ lie. c.differs_at_once-differs.ensures.differs yes c.args.query.now.host);
      need = λ allowed records bytes. refl;
      takes = record {
        most_records = omega (arith, c.in-Ok.ensures.taken);
        most_value_bytes = omega (arith, c.in-Ok-take_value_bytes.ensures.taken);
      };
      counted =
          let here = line_counted c.args.query.now.counted.now c.args.at own c.cards_within.result c.args.query.now.host
          c.args.query.now.content c.cards_within.ensures.numbers reads c.args.spending.now.meter.bytes
          c.differs_at_once-differs.new.meter.bytes (λ lie. omega (arith, counts.bytes)) in
          omega (arith, here, counts.rises);
    }

pub returns-then-differs-clause-cost : goal.returns-then-differs-clause-cost
returns-then-differs-clause-cost c = λ yes.
    let counts = c.differs_at_once-differs.ensures.counts yes c.args.query.now.host in
    let e : ℕ = length c.args.query.now.content + 1 in
    let v : ℕ = c.take_value_bytes.new.self.value_bytes in
    let taken : c.args.spending.now.budget.value_bytes ≡ v + c.from.result = omega (arith, c.in-Ok-take_value_bytes.ensures.taken) in
    let m : e * c.args.spending.now.budget.value_bytes ≡ e * (v + c.from.result) = ap (λ (n : ℕ). e * n) taken in
    let s = ap (λ (n : ℕ). e * n) c.from.ensures in
    record {
      records = omega (arith, c.in-Ok.ensures.taken);
      value_bytes = omega (arith, taken);
      untouched = λ free. absurd (omega arith);
      rises = omega (arith, counts.nodes);
      bytes_rise = omega (arith, counts.rises);
      most_nodes = omega (arith, c.in-Ok.ensures.taken, counts.nodes);
      most_bytes = omega (arith, c.differs_at_once-differs.ensures.limit);
      fair = omega (arith, c.in-Ok.ensures.taken, counts.nodes);
    }

pub returns-then-differs-clause-asked : goal.returns-then-differs-clause-asked
returns-then-differs-clause-asked c = λ yes.
    let size = ap (λ (ns : List ℕ). get_or ns 3 0) c.cards_within.ensures.numbers in
    asks_one c.args.query.now.counted.now c.args.at c.args.spending.now.budget _ (omega (arith, c.in-Ok.ensures.taken))
    (omega (arith, size, c.from.ensures, c.in-Ok-take_value_bytes.ensures.taken))
