use Rattle.std.proofs.Common.{◌+◌, ◌*◌, length, arith}
use Rattle.mime_names.specs.Keys.{IsEndKey}
use Rattle.mime_names.specs.Tree.{spelled}
use Rattle.mime_names.proofs.PlaceLemmas.{counts_places, sorted_places}
use Rattle.mime_names.proofs.places.text_places.Goals as goal

pub returns-clause-near : goal.returns-clause-near
returns-clause-near c =
    sorted_places (IsEndKey c.args.table.now.tree (spelled c.args.name.now)) c.args.table.now.keys.items
    _ c.push_endings.new.found.items c.in_order.new.places.items c.requires.none c.in_ok-push_endings.ensures.gathers
    c.push_endings.ensures.adds
    c.in_order.ensures.permutation c.in_order.ensures.sorted

pub returns-clause-steps : goal.returns-clause-steps
returns-clause-steps c =
    counts_places (IsEndKey c.args.table.now.tree (spelled c.args.name.now)) c.args.table.now.keys.items _ c.push_endings.new.found.items
    c.args.meter.now.nodes (2 * length c.args.name.now + 3) c.push_endings.new.meter.nodes
    c.requires.none c.push_endings.ensures.adds (omega (arith, c.push_endings.ensures.steps))

pub returns-in_err-push_endings-clause-steps : goal.returns-in_err-push_endings-clause-steps
returns-in_err-push_endings-clause-steps c =
    counts_places (IsEndKey c.args.table.now.tree (spelled c.args.name.now)) c.args.table.now.keys.items _ c.push_endings.new.found.items
    c.args.meter.now.nodes (2 * length c.args.name.now + 3) c.push_endings.new.meter.nodes
    c.requires.none c.push_endings.ensures.adds (omega (arith, c.push_endings.ensures.steps))
