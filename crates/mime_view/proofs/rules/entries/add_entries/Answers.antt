use Rattle.std.proofs.Common.{◌≡◌, ◌+◌, length, arith, inr, ◌∙◌}
use Rattle.std.proofs.lemmas.Result.{err_from_is_err_and}
use Rattle.mime_view.specs.Spending.{per_record}
use Rattle.mime_view.proofs.CostLemmas.Costs.{spends_then}
use Rattle.mime_view.proofs.LiteralLemmas.EntryRows.{next}
use Rattle.mime_view.proofs.ListingLemmas.RuleSources.{adds_also, adds_both}
use Rattle.mime_view.proofs.rules.entries.add_entries.Goals as goal

pub returns-in_err-add_entry-clause-answer : goal.returns-in_err-add_entry-clause-answer
returns-in_err-add_entry-clause-answer c = λ rules reads.
    let size : c.in_ok-count.count ≡ length rules = c.in_ok-count.ensures.count.0 ∙ reads.count in
    let n = next c.args.source.now.counted.now (c.args.at + 4) c.in_ok-count.count rules _ c.loop-i.i _ c.loop-i-test.true
    (c.loop-i.invariant.left rules reads) in
    let p = err_from_is_err_and c.from_residual-in_err-add_entry.result c.from_residual-in_err-add_entry.ensures.1 in
    let left = c.loop-i.invariant.most in
    rw (p.1, p.2) (record {
      answer = tt;
      need = λ enough. (c.in_err-add_entry.ensures.answer n.rule n.reads).need (omega (arith, left, c.loop-i-test.true));
      most = omega (arith, left, c.add_entry.ensures.most, c.loop-i-test.true);
    })

pub returns-in_err-add_entry-clause-adds : goal.returns-in_err-add_entry-clause-adds
returns-in_err-add_entry-clause-adds c =
    let p = err_from_is_err_and c.from_residual-in_err-add_entry.result c.from_residual-in_err-add_entry.ensures.1 in
    let entry = c.in_err-add_entry.ensures.adds in
    rw (p.1, p.2) (record {
      texts = λ all. entry.texts (c.loop-i.invariant.adds.texts all);
      fault = inr (c.loop-i.i, omega (arith, c.loop-i-test.true, c.in_ok-count.ensures.count.0), entry.fault);
      cost = spends_then (per_record 512) 1 0 0 0 _ _ _ c.loop-i.invariant.adds.cost entry.cost;
    })

pub loop-i-preserved : goal.loop-i-preserved
loop-i-preserved c =
    let entry = c.in_ok-add_entry.ensures in
    record {
      left = λ rules reads.
          let n = next c.args.source.now.counted.now (c.args.at + 4) c.in_ok-count.count rules _ c.loop-i.i _ c.loop-i-test.true
          (c.loop-i.invariant.left rules reads) in
          n.later _ (entry.answer n.rule n.reads).answer;
      most = omega (arith, c.loop-i.invariant.most, entry.most);
      sources = adds_both c.loop-i.invariant.sources
          (adds_also (λ rule one. (c.loop-i.i, omega (arith, c.loop-i-test.true, c.in_ok-count.ensures.count.0), one)) entry.sources);
      adds = record {
        texts = λ all. entry.adds.texts (c.loop-i.invariant.adds.texts all);
        fault = tt;
        cost = spends_then (per_record 512) 1 0 0 0 _ _ _ c.loop-i.invariant.adds.cost entry.adds.cost;
      };
    }

pub returns-clause-lists : goal.returns-clause-lists
returns-clause-lists c = record {
  rules = c.loop-i.invariant.sources;
  lies = omega (arith, c.in_ok-count.ensures.count.0, c.in_ok-count.ensures.count.1);
}
