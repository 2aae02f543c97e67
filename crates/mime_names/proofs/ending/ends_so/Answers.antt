use Rattle.std.proofs.Common.{◌-◌, length, ap, ◌∙◌, arith}
use Rattle.mime_base.specs.declared.meter.Meter.{Meter}
use Rattle.mime_names.proofs.CompareLemmas.{byte-other}
use Rattle.mime_names.proofs.ending.ends_so.Goals as goal

pub returns-then-not-are_alike-clause-otherwise : goal.returns-then-not-are_alike-clause-otherwise
returns-then-not-are_alike-clause-otherwise c = λ is.
    byte-other c.args.cased c.args.text.now c.args.name.now (length c.args.name.now - length c.args.text.now) (c.loop-left.left - 1)
    (omega (arith, c.if-name-text.false)) (omega (arith, c.loop-left.invariant.within, c.loop-left-test.true))
    (c.are_alike.ensures.otherwise c.if-not-are_alike.true)

pub returns-then-not-are_alike-clause-nodes : goal.returns-then-not-are_alike-clause-nodes
returns-then-not-are_alike-clause-nodes c = ap (λ (m : Meter). m.nodes) c.add_bytes-then-not-are_alike.ensures.added ∙ c.loop-left.invariant.nodes

pub returns-clause-nodes : goal.returns-clause-nodes
returns-clause-nodes c = ap (λ (m : Meter). m.nodes) c.add_bytes-2.ensures.added ∙ c.loop-left.invariant.nodes

pub returns-then-begins_otherwise-clause-bytes : goal.returns-then-begins_otherwise-clause-bytes
returns-then-begins_otherwise-clause-bytes c =
    omega (arith, ap (λ (m : Meter). m.bytes) c.add_bytes.ensures.added, c.begins_otherwise.ensures.some c.if-begins_otherwise.true, c.if-name-text.false)
