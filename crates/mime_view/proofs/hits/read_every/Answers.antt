use Rattle.std.proofs.Common.{◌≡◌, ℕ, ◌*◌, length, ap, subst, ◌∙◌}
use Rattle.std.proofs.lemmas.List.{length-map}
use Rattle.mime_view.specs.Spending.{Looks}
use Rattle.mime_view.proofs.HitsLemmas.SortedOffers.{length-falling, offered_rank}
use Rattle.mime_view.proofs.hits.read_every.Goals as goal

pub returns-in_err-kinds-clause-looks : goal.returns-in_err-kinds-clause-looks
returns-in_err-kinds-clause-looks c =
    let count : length c.deref-4.result.now ≡ length c.args.hits.items =
    ap length (c.deref-4.ensures ∙ c.in_ok-places.ensures.places) ∙ length-map c.deref-3.result.now (λ hit. hit.1)
    ∙ ap length (c.deref-3.ensures ∙ c.in_ok-sort_by_rank.ensures.sorted) ∙ length-falling offered_rank c.args.hits.items in
    subst (λ (n : ℕ). Looks 0 (256 * n) c.args.meter.now c.read_kinds-2.new.meter) count c.in_err-kinds.ensures.looks

pub returns-clause-looks : goal.returns-clause-looks
returns-clause-looks c =
    let count : length c.deref-4.result.now ≡ length c.args.hits.items =
    ap length (c.deref-4.ensures ∙ c.in_ok-places.ensures.places) ∙ length-map c.deref-3.result.now (λ hit. hit.1)
    ∙ ap length (c.deref-3.ensures ∙ c.in_ok-sort_by_rank.ensures.sorted) ∙ length-falling offered_rank c.args.hits.items in
    subst (λ (n : ℕ). Looks 0 (256 * n) c.args.meter.now c.read_kinds-2.new.meter) count c.in_ok-kinds.ensures.looks
