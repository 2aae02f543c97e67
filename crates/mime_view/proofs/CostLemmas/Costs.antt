-- What steps cost, one after another.
use Rattle.std.proofs.Common.{◌≡◌, ℕ, ◌+◌, ◌≤◌, ◌∙◌, refl, ap, arith}
use Rattle.mime_view.specs.Spending.{Looks, Price, Spends}
use Rattle.mime_view.specs.declared.budget.Budget.{Budget}
use Rattle.mime_view.specs.declared.spending.Spending.{Spending}

-- no step costs nothing
pub spends_none : (price : Price) (old : Spending) → Spends price 0 0 old old
spends_none price old = record {
  records = omega arith;
  value_bytes = omega arith;
  untouched = λ free. refl;
  rises = omega arith;
  bytes_rise = omega arith;
  most_nodes = omega arith;
  most_bytes = omega arith;
  fair = omega arith;
}

-- a look at records, and nothing of the budget
pub spends_looks : (price : Price) (nodes bytes : ℕ) (old new : Spending) → new.budget ≡ old.budget
    → Looks nodes bytes old.meter new.meter → Spends price nodes bytes old new
spends_looks price nodes bytes old new same looks =
    let records : new.budget.records ≡ old.budget.records = ap (λ (budget : Budget). budget.records) same in
    let value_bytes : new.budget.value_bytes ≡ old.budget.value_bytes = ap (λ (budget : Budget). budget.value_bytes) same in
    record {
      records = omega arith;
      value_bytes = omega arith;
      untouched = λ free. value_bytes;
      rises = looks.rises;
      bytes_rise = looks.bytes_rise;
      most_nodes = rw records (omega (arith, looks.most_nodes));
      most_bytes = rw (records, value_bytes) (omega (arith, looks.most_bytes));
      fair = omega (arith, looks.rises);
    }

-- one step, and then another
pub spends_then : (price : Price) (nodes bytes later_nodes later_bytes : ℕ) (old mid new : Spending) → Spends price nodes bytes old mid
    → Spends price later_nodes later_bytes mid new → Spends price (nodes + later_nodes) (bytes + later_bytes) old new
spends_then price nodes bytes later_nodes later_bytes old mid new first second =
    let before = first.fair in
    let after = second.fair in
    record {
      records = omega (arith, first.records, second.records);
      value_bytes = omega (arith, first.value_bytes, second.value_bytes);
      untouched = λ free. second.untouched free ∙ first.untouched free;
      rises = omega (arith, first.rises, second.rises);
      bytes_rise = omega (arith, first.bytes_rise, second.bytes_rise);
      most_nodes = omega (arith, first.most_nodes, second.most_nodes);
      most_bytes = omega (arith, first.most_bytes, second.most_bytes);
      fair = omega (arith, first.fair, second.fair, first.rises, second.records);
    }

-- more nodes and bytes may come besides
pub spends_within : (price : Price) (nodes bytes more_nodes more_bytes : ℕ) (old new : Spending) → nodes ≤ more_nodes → bytes ≤ more_bytes
    → Spends price nodes bytes old new → Spends price more_nodes more_bytes old new
spends_within price nodes bytes more_nodes more_bytes old new wider longer is = record {
  records = is.records;
  value_bytes = is.value_bytes;
  untouched = is.untouched;
  rises = is.rises;
  bytes_rise = is.bytes_rise;
  most_nodes = omega (arith, is.most_nodes, wider);
  most_bytes = omega (arith, is.most_bytes, longer);
  fair = is.fair;
}
