use Rattle.std.proofs.Common.{◌≤◌, length, arith}
use Rattle.std.proofs.lemmas.List.Elements.{All-map}
use Rattle.mime_base.specs.Magic.{PlainSection, plain_section}
use Rattle.mime_lookup.proofs.short_types.sections_are_short.Goals as goal

pub returns : goal.returns
returns c =
    All-map (λ (section : PlainSection). length section.kind ≤ 255) plain_section c.args.sections.now
    (λ k d within. c.loop-section.invariant k d (omega (arith, within, c.loop-section-test.false)))
