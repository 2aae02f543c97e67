use Rattle.std.proofs.Common.{◌⊎◌, ℕ, ◌+◌, ◌*◌, inl, inr, length, arith}
use Rattle.mime_names.specs.Keys.{IsEndKey, Fronts}
use Rattle.mime_names.specs.Tree.{spelled}
use Rattle.mime_names.proofs.GatherLemmas.{adds-both, adds-stronger, gathers-both}
use Rattle.mime_names.proofs.PlaceLemmas.{counts_places, sorted_places}
use Rattle.mime_names.proofs.TableLemmas.{ends-fronts}
use Rattle.mime_names.proofs.places.all_places.Goals as goal

pub returns-clause-near : goal.returns-clause-near
returns-clause-near c =
    let table = c.args.table.now in
    let name = c.args.name.now in
    let keys = table.keys.items in
    let ends = IsEndKey table.tree (spelled name) in
    let both : ℕ → Type 0 = λ key. ends key ⊎ Fronts name key in
    sorted_places both keys _ c.push_fronts.new.found.items c.in_order.new.places.items c.new-found.ensures.items
    (gathers-both keys ends (Fronts name) both _ _ _ (λ key asks. asks) c.in_ok-push_endings.ensures.gathers
    c.in_ok-push_fronts.ensures.gathers)
    (adds-both keys ends (Fronts name) both _ _ _ (λ key one. inl one) (λ key other. inr other) (ends-fronts table.tree (spelled name) name)
    c.push_endings.ensures.adds c.push_fronts.ensures.adds)
    c.in_order.ensures.permutation c.in_order.ensures.sorted

pub returns-clause-steps : goal.returns-clause-steps
returns-clause-steps c =
    let table = c.args.table.now in
    let name = c.args.name.now in
    let ends = IsEndKey table.tree (spelled name) in
    let both : ℕ → Type 0 = λ key. ends key ⊎ Fronts name key in
    counts_places both table.keys.items _ c.push_fronts.new.found.items c.args.meter.now.nodes (2 * length name + 5)
    c.push_fronts.new.meter.nodes c.new-found.ensures.items
    (adds-both table.keys.items ends (Fronts name) both _ _ _ (λ key one. inl one) (λ key other. inr other)
    (ends-fronts table.tree (spelled name) name)
    c.push_endings.ensures.adds c.push_fronts.ensures.adds)
    (omega (arith, c.push_endings.ensures.steps, c.push_fronts.ensures.steps))

pub returns-in_err-push_fronts-clause-steps : goal.returns-in_err-push_fronts-clause-steps
returns-in_err-push_fronts-clause-steps c =
    let table = c.args.table.now in
    let name = c.args.name.now in
    let ends = IsEndKey table.tree (spelled name) in
    let both : ℕ → Type 0 = λ key. ends key ⊎ Fronts name key in
    counts_places both table.keys.items _ c.push_fronts.new.found.items c.args.meter.now.nodes (2 * length name + 5)
    c.push_fronts.new.meter.nodes c.new-found.ensures.items
    (adds-both table.keys.items ends (Fronts name) both _ _ _ (λ key one. inl one) (λ key other. inr other)
    (ends-fronts table.tree (spelled name) name)
    c.push_endings.ensures.adds c.push_fronts.ensures.adds)
    (omega (arith, c.push_endings.ensures.steps, c.push_fronts.ensures.steps))

pub returns-in_err-push_endings-clause-steps : goal.returns-in_err-push_endings-clause-steps
returns-in_err-push_endings-clause-steps c =
    let table = c.args.table.now in
    let name = c.args.name.now in
    let ends = IsEndKey table.tree (spelled name) in
    let both : ℕ → Type 0 = λ key. ends key ⊎ Fronts name key in
    counts_places both table.keys.items _ c.push_endings.new.found.items c.args.meter.now.nodes (2 * length name + 5)
    c.push_endings.new.meter.nodes c.new-found.ensures.items
    (adds-stronger table.keys.items ends both _ _ (λ key one. inl one) c.push_endings.ensures.adds)
    (omega (arith, c.push_endings.ensures.steps))
