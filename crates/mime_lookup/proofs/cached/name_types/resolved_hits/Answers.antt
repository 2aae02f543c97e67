use Rattle.std.proofs.Common.{◌≡◌, rules, ◌<◌, ◌+◌, length, arith, refl, map, ap, sym, subst, ◌∙◌, ⊎_elim}
use Rattle.std.proofs.lemmas.List.Elements.{All-set}
use Rattle.mime_base.specs.Database.Subclass.{resolved}
use Rattle.mime_lookup.specs.Cached.{IsCacheText}
use Rattle.mime_lookup.specs.NameTypes.{types_for}
use Rattle.mime_lookup.proofs.CostLemmas.Costs.{spends_steps}
use Rattle.mime_lookup.proofs.CostLemmas.Near.{types_few}
use Rattle.mime_lookup.proofs.LookUpLemmas.SpelledParts.{spelled_rules}
use Rattle.mime_lookup.proofs.StopLemmas.StepStops.{not_given, passed_on}
use Rattle.mime_lookup.proofs.OrderLemmas.KeptTypes.{all_item, length-kept, stepped-all, stepped-next, texts_count, types_for-rules}
use Rattle.mime_view.specs.declared.budget.Budget.{Budget}
use Rattle.mime_lookup.proofs.cached.name_types.resolved_hits.Goals as goal

pub returns-in_err-hits-clause-gives : goal.returns-in_err-hits-clause-gives
returns-in_err-hits-clause-gives c b spelled =
    let passed = c.from_residual.ensures.1 in
    let hits = c.in_err-hits.ensures.gives b.rules (spelled_rules c.args.cache.now b spelled) in
    record {
      answer = not_given _ _ c.from_residual.result passed;
      need = λ enough. passed_on _ _ c.from_residual.result passed (hits.need spelled.ranks enough);
      within = hits.within;
      nearly = hits.nearly;
    }

pub returns-in_err-hits-clause-cost : goal.returns-in_err-hits-clause-cost
returns-in_err-hits-clause-cost c = record {
  found = 0;
  given = not_given _ _ c.from_residual.result c.from_residual.ensures.1;
  paid = omega (arith, c.in_err-hits.ensures.cost.records);
  cost =
      spends_steps 0 c.in_err-hits.ensures.cost refl
      (record { rises = omega arith; bytes_rise = omega arith; most_nodes = omega arith; most_bytes = omega arith });
}

pub returns-in_err-kind-clause-gives : goal.returns-in_err-kind-clause-gives
returns-in_err-kind-clause-gives c b spelled =
    record {
      answer = not_given _ _ c.from_residual-in_err-kind.result c.from_residual-in_err-kind.ensures.1;
      need = λ enough. absurd (c.in_err-kind.ensures.answer spelled.offsets b.aliases spelled.header spelled.aliases);
      within = absurd (c.in_err-kind.ensures.answer spelled.offsets b.aliases spelled.header spelled.aliases);
      nearly = absurd (c.in_err-kind.ensures.answer spelled.offsets b.aliases spelled.header spelled.aliases);
    }

pub returns-in_err-kind-clause-cost : goal.returns-in_err-kind-clause-cost
returns-in_err-kind-clause-cost c =
    let first = texts_count c.as_slice-place-end.result.now c.in_ok-hits.hits.kinds c.as_slice-place-end.ensures in
    let so_far = c.loop-place.invariant.cost in
    let step = c.in_err-kind.ensures in
    let stays = step.budget in
    let records = ap (λ (budget : Budget). budget.records) (stays ∙ c.loop-place.invariant.budget) in
    record {
      found = c.loop-place.place + 1;
      given = not_given _ _ c.from_residual-in_err-kind.result c.from_residual-in_err-kind.ensures.1;
      paid = omega (arith, first, c.loop-place-test.true, c.in_ok-hits.ensures.texts.count, records);
      cost = spends_steps (c.loop-place.place + 1) c.in_ok-hits.ensures.cost (stays ∙ c.loop-place.invariant.budget) (record {
        rises = omega (arith, so_far.rises, step.cost.rises);
        bytes_rise = omega (arith, so_far.bytes_rise, step.cost.bytes_rise);
        most_nodes = omega (arith, so_far.most_nodes, step.cost.most_nodes);
        most_bytes = omega (arith, so_far.most_bytes, step.cost.most_bytes);
      });
    }

pub loop-place-init : goal.loop-place-init
loop-place-init c = record {
  size = refl;
  answer = λ b spelled. refl;
  text = c.in_ok-hits.ensures.texts.text;
  budget = refl;
  cost = record { rises = omega arith; bytes_rise = omega arith; most_nodes = omega arith; most_bytes = omega arith };
}

pub loop-place-preserved : goal.loop-place-preserved
loop-place-preserved c =
    let items = c.as_slice.result.now in
    let first = texts_count c.as_slice-place-end.result.now c.in_ok-hits.hits.kinds c.as_slice-place-end.ensures in
    let now = texts_count items c.loop-place.kinds c.as_slice.ensures in
    let within : c.loop-place.place < length items =
    omega (arith, first, now, c.loop-place.invariant.size, c.loop-place-test.true) in
    record {
      size = search rules;
      answer = λ b spelled. stepped-next (resolved b.aliases) c.in_ok-hits.hits.kinds c.loop-place.kinds c.replace.new.self
          items c.loop-place.place _ c.in_ok-kind.kind.now within c.as_slice.ensures (c.loop-place.invariant.answer b spelled)
          (c.in_ok-kind.ensures.answer spelled.offsets b.aliases spelled.header spelled.aliases) c.replace.ensures;
      text =
          let is = all_item (IsCacheText c.args.cache.now) items c.loop-place.place _ within
          (rw (sym c.as_slice.ensures) at c.loop-place.invariant.text) in
          rw c.replace.ensures (All-set (IsCacheText c.args.cache.now) c.loop-place.kinds c.loop-place.place c.in_ok-kind.kind.now
          (⊎_elim (λ same. subst (IsCacheText c.args.cache.now) (sym same) is) (λ text. text) c.in_ok-kind.ensures.given.text)
          c.loop-place.invariant.text);
      budget = search rules;
      cost =
          let so_far = c.loop-place.invariant.cost in
          let step = c.in_ok-kind.ensures in
          record {
            rises = omega (arith, so_far.rises, step.cost.rises);
            bytes_rise = omega (arith, so_far.bytes_rise, step.cost.bytes_rise);
            most_nodes = omega (arith, so_far.most_nodes, step.cost.most_nodes);
            most_bytes = omega (arith, so_far.most_bytes, step.cost.most_bytes);
          };
    }

pub returns-clause-gives : goal.returns-clause-gives
returns-clause-gives c b spelled =
    let step = resolved b.aliases in
    let first = texts_count c.as_slice-place-end.result.now c.in_ok-hits.hits.kinds c.as_slice-place-end.ensures in
    let hits = c.in_ok-hits.ensures.gives b.rules (spelled_rules c.args.cache.now b spelled) in
    let rules = hits.answer spelled.ranks in
    let types : c.loop-place.kinds ≡ types_for c.args.which b c.args.name.now =
    c.loop-place.invariant.answer b spelled
    ∙ stepped-all step c.loop-place.place c.in_ok-hits.hits.kinds (omega (arith, first, c.loop-place-test.false))
    ∙ ap (map step) rules.types
    ∙ types_for-rules c.args.which b c.args.name.now in
    let few = types_few c.kept_are_near.ensures c.candidates_are_near.ensures c.args.which b c.args.name.now in
    let records = ap (λ (budget : Budget). budget.records) c.loop-place.invariant.budget in
    record {
      answer = record {
        types = types;
        count = rules.count ∙ sym (length-kept b c.args.name.now);
        few = omega (arith, ap length types, few);
      };
      need = λ enough. tt;
      within = omega (arith, records, hits.within);
      nearly = omega (arith, records, hits.nearly);
    }

pub returns-clause-front : goal.returns-clause-front
returns-clause-front c = omega (arith, c.in_ok-hits.ensures.texts.front, c.loop-place.invariant.size)

pub returns-clause-cost : goal.returns-clause-cost
returns-clause-cost c =
    let i = c.loop-place.invariant in
    let first = texts_count c.as_slice-place-end.result.now c.in_ok-hits.hits.kinds c.as_slice-place-end.ensures in
    let records = ap (λ (budget : Budget). budget.records) i.budget in
    record {
      found = length c.loop-place.kinds;
      given = refl;
      paid = omega (arith, i.size, c.in_ok-hits.ensures.texts.count, records);
      cost = spends_steps (length c.loop-place.kinds) c.in_ok-hits.ensures.cost i.budget (record {
        rises = i.cost.rises;
        bytes_rise = i.cost.bytes_rise;
        most_nodes = omega (arith, i.cost.most_nodes, first, i.size, c.loop-place-test.false);
        most_bytes = omega (arith, i.cost.most_bytes, first, i.size);
      });
    }
