use Rattle.mime_names.specs.Keys.{Fronts}
use Rattle.mime_names.proofs.PlaceLemmas.{counts_places, sorted_places}
use Rattle.mime_names.proofs.places.front_places.Goals as goal

pub returns-clause-near : goal.returns-clause-near
returns-clause-near c =
    sorted_places (Fronts c.args.name.now) c.args.table.now.keys.items
    _ c.push_fronts.new.found.items c.in_order.new.places.items c.requires.none c.in_ok-push_fronts.ensures.gathers
    c.push_fronts.ensures.adds
    c.in_order.ensures.permutation c.in_order.ensures.sorted

pub returns-clause-steps : goal.returns-clause-steps
returns-clause-steps c =
    counts_places (Fronts c.args.name.now) c.args.table.now.keys.items _ c.push_fronts.new.found.items c.args.meter.now.nodes 2
    c.push_fronts.new.meter.nodes
    c.requires.none c.push_fronts.ensures.adds c.push_fronts.ensures.steps

pub returns-in_err-push_fronts-clause-steps : goal.returns-in_err-push_fronts-clause-steps
returns-in_err-push_fronts-clause-steps c =
    counts_places (Fronts c.args.name.now) c.args.table.now.keys.items _ c.push_fronts.new.found.items c.args.meter.now.nodes 2
    c.push_fronts.new.meter.nodes
    c.requires.none c.push_fronts.ensures.adds c.push_fronts.ensures.steps
