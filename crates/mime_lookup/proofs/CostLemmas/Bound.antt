-- The bounds of a lookup over a cache, from what its steps cost with the budget of the cache.
use Rattle.std.proofs.Common.{◌≡◌, ℕ, ◌+◌, ◌*◌, ◌/◌, ◌≤◌, List, length, ap, arith}
use Rattle.std.proofs.Math.Nat.{mul-le-mul_left}
use Rattle.mime_lookup.specs.Bounds.{KeepsBounds}
use Rattle.mime_lookup.specs.Costs.{Costs, glob_cost, record_cost}
use Rattle.mime_view.specs.declared.spending.Spending.{Spending}

-- the nodes and the bytes
pub keeps_bounds : (name read : ℕ) (c : List ℕ) (old new : Spending) → old.budget.records ≡ length c / 4
    → old.budget.value_bytes ≡ length c → old.meter.nodes ≤ 1 → old.meter.bytes ≡ 0
    → Costs (record_cost name) (read + 1) (glob_cost name + 31) old new → KeepsBounds name c read new.meter
keeps_bounds name read c old new records value_bytes opened none cost =
    let quarter : 4 * old.budget.records ≤ length c = omega (arith, records) in
    let m : 64 * (name + 64) * (4 * old.budget.records) ≤ 64 * (name + 64) * length c = mul-le-mul_left (64 * (name + 64)) quarter in
    let v : (read + 1) * old.budget.value_bytes ≡ (read + 1) * length c = ap (λ (n : ℕ). (read + 1) * n) value_bytes in
    record {
      nodes = omega (arith, cost.most_nodes, quarter);
      bytes = omega (arith, cost.most_bytes, m, v, none);
    }
