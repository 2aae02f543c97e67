use Rattle.std.proofs.Common.{◌≡◌, ℕ, ◌*◌, length, ap, subst, ◌∙◌}
use Rattle.mime_view.specs.Spending.{Looks}
use Rattle.mime_view.proofs.HitsLemmas.GivenRules.{types-read}
use Rattle.mime_view.proofs.HitsLemmas.SortedOffers.{length-falling, offered_rank}
use Rattle.mime_view.proofs.hits.read_every_rule.Goals as goal

pub returns-in_err-rules-clause-looks : goal.returns-in_err-rules-clause-looks
returns-in_err-rules-clause-looks c =
    let count : length c.deref-2.result.now ≡ length c.args.hits.items =
    ap length (c.deref-2.ensures ∙ c.in_ok-sort_by_rank.ensures.sorted) ∙ length-falling offered_rank c.args.hits.items in
    subst (λ (n : ℕ). Looks 0 (256 * n) c.args.meter.now c.read_rules.new.meter) count c.in_err-rules.ensures.looks

pub returns-clause-answer : goal.returns-clause-answer
returns-clause-answer c =
    let sorted = c.deref-2.ensures ∙ c.in_ok-sort_by_rank.ensures.sorted in
    record {
      texts = types-read c.args.counted.now _ c.in_ok-rules.rules.items (rw sorted at c.in_ok-rules.ensures.answer);
      count = c.count_best-kept.ensures c.args.hits.items (c.deref.ensures ∙ c.in_ok-sort_by_rank.ensures.sorted);
    }

pub returns-clause-looks : goal.returns-clause-looks
returns-clause-looks c =
    let count : length c.deref-2.result.now ≡ length c.args.hits.items =
    ap length (c.deref-2.ensures ∙ c.in_ok-sort_by_rank.ensures.sorted) ∙ length-falling offered_rank c.args.hits.items in
    subst (λ (n : ℕ). Looks 0 (256 * n) c.args.meter.now c.read_rules.new.meter) count c.in_ok-rules.ensures.looks
