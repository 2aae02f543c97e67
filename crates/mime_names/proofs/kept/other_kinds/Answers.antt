use Rattle.std.proofs.Common.{refl, arith}
use Rattle.mime_names.specs.Keys.{Fronts}
use Rattle.mime_names.specs.Places.{is_text_at}
use Rattle.mime_names.specs.Rules.{others}
use Rattle.mime_names.proofs.KeyByteLemmas.{compares-keys, fronts-bytes}
use Rattle.mime_names.proofs.NodeLemmas.{fronts-nodes}
use Rattle.mime_names.proofs.TableLemmas.{near-others}
use Rattle.mime_names.proofs.kept.other_kinds.Goals as goal

pub returns-clause-kept : goal.returns-clause-kept
returns-clause-kept c =
    let patterns = c.args.patterns.now in
    let near = near-others c.args.table.now patterns c.args.rules.now c.requires.keyed c.requires.own c.args.name.now
    c.front_places.new.found.items c.in_ok-front_places.ensures.near in
    (rw c.as_mut_slice.ensures.value at (c.leading_types.ensures.kept (others patterns))) near

pub returns-in_err-front_places-clause-near : goal.returns-in_err-front_places-clause-near
returns-in_err-front_places-clause-near c =
    fronts-nodes c.args.patterns.now c.args.rules.now c.args.table.now
    (record { own = c.requires.own; repeated = c.requires.repeated; keyed = c.requires.keyed; counted = refl })
    c.args.name.now _ refl c.args.meter.now.nodes c.front_places.new.meter.nodes c.front_places.ensures.steps

pub returns-clause-near : goal.returns-clause-near
returns-clause-near c =
    let before =
    fronts-nodes c.args.patterns.now c.args.rules.now c.args.table.now
    (record { own = c.requires.own; repeated = c.requires.repeated; keyed = c.requires.keyed; counted = refl })
    c.args.name.now _ refl c.args.meter.now.nodes c.front_places.new.meter.nodes c.front_places.ensures.steps in
    omega (arith, before, c.leading_types.ensures.nodes)

pub returns-clause-bytes : goal.returns-clause-bytes
returns-clause-bytes c =
    let patterns = c.args.patterns.now in
    let rules = c.args.rules.now in
    let keys = c.args.table.now.keys.items in
    fronts-bytes patterns rules c.args.table.now
    (record { own = c.requires.own; repeated = c.requires.repeated; keyed = c.requires.keyed; counted = refl })
    c.args.name.now _ refl c.args.meter.now.bytes c.leading_types.new.meter.bytes
    (compares-keys (is_text_at patterns rules) (Fronts c.args.name.now) keys c.front_places.new.found.items _ _ _ _
    c.in_ok-front_places.ensures.near (rw (c.as_mut_slice.ensures.value, c.front_places.ensures.bytes) at c.leading_types.ensures.bytes))
