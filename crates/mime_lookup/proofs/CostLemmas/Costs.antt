-- What a step of a lookup over a cache costs, put together from what its parts cost.
use Rattle.std.proofs.Common.{◌≡◌, ◌∙◌, ℕ, ◌+◌, ◌-◌, ◌*◌, ◌≤◌, ap, arith, refl}
use Rattle.std.proofs.Math.Nat.{mul-le-mul_left}
use Rattle.mime_lookup.specs.Costs.{Costs, CostsOwing, LooksAt, glob_cost, lookup_price, record_cost}
use Rattle.mime_view.proofs.CostLemmas.Costs.{spends_looks, spends_then, spends_within}
use Rattle.mime_view.specs.Magic.{magic_price}
use Rattle.mime_view.specs.Spending.{Looks, Spends, per_record}
use Rattle.mime_view.specs.declared.budget.Budget.{Budget}
use Rattle.mime_view.specs.declared.spending.Spending.{Spending}

-- a look at records
pub costs_looks : (each value : ℕ) {nodes : ℕ} {old new : Spending} → LooksAt nodes old new → Costs each value nodes old new
costs_looks each value {nodes} {old} {new} is = spends_looks (lookup_price each value) nodes (256 * nodes) old new is.budget is.looks

-- a step that leaves nothing to be paid
pub owing_none : {each value more : ℕ} {old new : Spending} → Costs each value more old new → CostsOwing 0 each value more old new
owing_none is = record { alone = is; nodes = omega (arith, is.most_nodes); bytes = omega (arith, is.most_bytes) }

-- what a step left to be paid pays for the next
pub costs_owed : {each value owed more later : ℕ} {old mid new : Spending} (all : ℕ) → CostsOwing owed each value more old mid
    → Costs each value later mid new → more + later ≤ all + owed → Costs each value all old new
costs_owed {each} {value} {owed} {more} {later} all first second less =
    let alone = first.alone in
    record {
      records = omega (arith, alone.records, second.records);
      value_bytes = omega (arith, alone.value_bytes, second.value_bytes);
      untouched = λ free. omega (arith, alone.untouched free, second.untouched free);
      rises = omega (arith, alone.rises, second.rises);
      bytes_rise = omega (arith, alone.bytes_rise, second.bytes_rise);
      most_nodes = omega (arith, first.nodes, second.most_nodes, less);
      most_bytes = omega (arith, first.bytes, second.most_bytes, less);
      fair = omega (arith, alone.fair, alone.rises, second.fair, second.rises);
    }

-- one step after another
pub costs_then : {each value more later : ℕ} {old mid new : Spending} (all : ℕ) → Costs each value more old mid
    → Costs each value later mid new → more + later ≤ all → Costs each value all old new
costs_then all first second less = costs_owed all (owing_none first) second (omega (arith, less))

-- at most more bytes a record and a value byte, and at most more nodes besides
pub costs_wider : {each value more : ℕ} {old new : Spending} (wide broad all : ℕ) → Costs each value more old new → each ≤ wide
    → value ≤ broad → more ≤ all → Costs wide broad all old new
costs_wider {each} {value} {more} {old} {new} wide broad all is wider broader longer =
    let extra : ℕ = wide - each in
    let over : ℕ = broad - value in
    let r : extra * new.budget.records ≤ extra * old.budget.records = mul-le-mul_left extra is.records in
    let v : over * new.budget.value_bytes ≤ over * old.budget.value_bytes = mul-le-mul_left over is.value_bytes in
    let w : wide ≡ each + extra = omega arith in
    let o : broad ≡ value + over = omega arith in
    record {
      records = is.records;
      value_bytes = is.value_bytes;
      untouched = λ free. is.untouched (omega (arith, free, broader));
      rises = is.rises;
      bytes_rise = is.bytes_rise;
      most_nodes = omega (arith, is.most_nodes, longer);
      most_bytes = rw (w, o) (omega (arith, is.most_bytes, longer));
      fair = is.fair;
    }

-- a step that takes no value byte, whatever one costs
owing_wider : {each owed more : ℕ} {old new : Spending} (value : ℕ) → CostsOwing owed each 0 more old new
    → CostsOwing owed each value more old new
owing_wider {each} {owed} {more} {old} {new} value is =
    let v : value * new.budget.value_bytes ≡ value * old.budget.value_bytes = ap (λ (n : ℕ). value * n) (is.alone.untouched refl) in
    record {
      alone = costs_wider each value more is.alone (omega arith) (omega arith) (omega arith);
      nodes = is.nodes;
      bytes = omega (arith, is.bytes, v);
    }

-- a front was sniffed, and then a step takes no value byte
pub costs_sniffed : {value each later : ℕ} {old mid new : Spending} (name all : ℕ) → Costs 256 value 1 old mid
    → Costs each 0 later mid new → each ≤ record_cost name → 1 + later ≤ all → Costs (record_cost name) value all old new
costs_sniffed {value} {each} {later} name all first second cheaper less =
    costs_then all (costs_wider (record_cost name) value 1 first (omega arith) (omega arith) (omega arith))
    (costs_wider (record_cost name) value later second cheaper (omega arith) (omega arith)) less

-- a name, the front that it wants, and what that gives, for which the name left enough
pub costs_halves : {each value owed more : ℕ} {old named wanted new : Spending} → CostsOwing owed each 0 more old named
    → LooksAt 1 named wanted → Costs each value (30 + owed) wanted new → Costs each value (more + 31) old new
costs_halves {each} {value} {owed} {more} first second third =
    costs_owed (more + 31) (owing_wider value first) (costs_then (31 + owed) (costs_looks each value second) third (omega arith)) (omega arith)

-- a search of magic
pub costs_magic : (content : ℕ) (old new : Spending) → Spends (magic_price content) 1 0 old new → Costs 256 (content + 1) 1 old new
costs_magic content old new is = record {
  records = is.records;
  value_bytes = is.value_bytes;
  untouched = is.untouched;
  rises = is.rises;
  bytes_rise = is.bytes_rise;
  most_nodes = omega (arith, is.most_nodes, is.records);
  most_bytes = omega (arith, is.most_bytes);
  fair = is.fair;
}

-- a search for types, and then that many alias steps
pub spends_steps : {each more : ℕ} {old mid new : Spending} (steps : ℕ) → Spends (per_record each) more (256 * more) old mid
    → new.budget ≡ mid.budget → Looks (29 * steps) (256 * 29 * steps) mid.meter new.meter
    → Spends (per_record each) (more + 29 * steps) (256 * (more + 29 * steps)) old new
spends_steps {each} {more} {old} {mid} {new} steps first same looks =
    let second = spends_looks (per_record each) (29 * steps) (256 * 29 * steps) mid new same looks in
    spends_within (per_record each) (more + 29 * steps) (256 * more + 256 * 29 * steps) (more + 29 * steps)
    (256 * (more + 29 * steps)) old new (omega arith) (omega arith)
    (spends_then (per_record each) more (256 * more) (29 * steps) (256 * 29 * steps) old mid new first second)

-- a search for types with an alias step for each; where they are tested, another step for each is kept back
pub costs_kinds : (name found kinds : ℕ) (old hits new : Spending) → found + hits.budget.records ≤ old.budget.records → kinds ≤ found
    → Spends (per_record (256 * (name + 3))) (glob_cost name + 29 * found) (256 * (glob_cost name + 29 * found)) old hits
    → new.budget ≡ hits.budget
    → new.meter.nodes ≡ hits.meter.nodes → hits.meter.bytes ≤ new.meter.bytes → new.meter.bytes ≤ hits.meter.bytes + 512 * kinds
    → CostsOwing (29 * kinds) (record_cost name) 0 (glob_cost name) old new
costs_kinds name found kinds old hits new paid few is same nodes rises bytes =
    let records = ap (λ (budget : Budget). budget.records) same in
    let value_bytes = ap (λ (budget : Budget). budget.value_bytes) same in
    record {
      alone = record {
        records = omega (arith, is.records, records);
        value_bytes = omega (arith, is.value_bytes, value_bytes);
        untouched = λ free. value_bytes ∙ is.untouched refl;
        rises = omega (arith, is.rises, nodes);
        bytes_rise = omega (arith, is.bytes_rise, rises);
        most_nodes = omega (arith, is.most_nodes, nodes, records, paid);
        most_bytes = rw records (omega (arith, is.most_bytes, bytes, paid, few));
        fair = omega (arith, is.fair, nodes, records);
      };
      nodes = omega (arith, is.most_nodes, nodes, records, paid, few);
      bytes = rw records (omega (arith, is.most_bytes, bytes, paid, few));
    }
