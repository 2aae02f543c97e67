-- What a search for a subclass has spent, with each type that waits for its test and its expansion still to be paid.
use Rattle.std.proofs.Common.{◌≡◌, ℕ, ◌+◌, ◌*◌, ◌≤◌, arith}
use Rattle.mime_base.specs.declared.meter.Meter.{Meter}
use Rattle.mime_view.specs.Spending.{Spends, spending_of}
use Rattle.mime_view.specs.declared.spending.Spending.{Spending}
use Rattle.mime_lookup.specs.Costs.{Costs, CostsOwing}
use Rattle.mime_lookup.specs.Searching.{expansion_price, search_cost}

-- One of the types that wait is tested, and then it is expanded.
module _ (waiting : ℕ) (old mid new : Spending) (tested : Meter) (paid : CostsOwing (29 * (waiting + 1)) search_cost 0 29 old mid)
    (same : tested.nodes ≡ mid.meter.nodes) (rises : mid.meter.bytes ≤ tested.bytes) (few : tested.bytes ≤ mid.meter.bytes + 512)
    (step : Spends expansion_price 29 (256 * 27) (spending_of tested mid.budget) new) where
  -- as a part of the whole
  expanded_alone : Costs search_cost 0 29 old new
  expanded_alone = record {
    records = omega (arith, paid.alone.records, step.records);
    value_bytes = omega (arith, paid.alone.value_bytes, step.value_bytes);
    untouched = λ free. cc (step.untouched free, paid.alone.untouched free);
    rises = omega (arith, paid.alone.rises, same, step.rises);
    bytes_rise = omega (arith, paid.alone.bytes_rise, rises, step.bytes_rise);
    most_nodes = omega (arith, paid.nodes, same, step.most_nodes, step.records);
    most_bytes = omega (arith, paid.bytes, few, step.most_bytes, step.records);
    fair = omega (arith, paid.alone.fair, same, step.fair, step.rises, step.records);
  }

  -- and what came waits
  pub expanded_owing : (after : ℕ) → after + new.budget.records ≡ waiting + mid.budget.records
      → CostsOwing (29 * after) search_cost 0 29 old new
  expanded_owing after falls = record {
    alone = expanded_alone;
    nodes = omega (arith, paid.nodes, same, step.most_nodes, falls);
    bytes = omega (arith, paid.bytes, few, step.most_bytes, falls);
  }
