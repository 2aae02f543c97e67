use Rattle.std.proofs.Common.{ℕ, List, Some, length, ap, ◌∙◌}
use Rattle.mime_base.specs.Magic.Holds.{equals_from}
use Rattle.mime_base.specs.Magic.{line_from, mask_bytes}
use Rattle.mime_base.specs.declared.magic.matchlet.Matchlet.TheViews.{out-Matchlet}
use Rattle.mime_base.proofs.MagicLemmas.HoldingLines.{equals_from-mask}
use Rattle.mime_base.proofs.MagicLemmas.HoldingMatchlets.{plain_matchlet-out}
use Rattle.mime_base.proofs.MagicLemmas.WindowBytes.{counted-windows}
use Rattle.mime_base.proofs.magic.holding.equals_in_range.Goals as goal

pub returns-clause-equal : goal.returns-clause-equal
returns-clause-equal c =
    let m = out-Matchlet c.args.line.now in
    let start : ℕ = m.start in
    let range : ℕ = m.range in
    rw (plain_matchlet-out c.args.line.now)
    (c.value_in_range.ensures.equal
    ∙ ap
    (λ (value : List ℕ).
    equals_from (line_from start range m.word value (Some c.bits_of.result.now)) c.args.host c.args.content.now start range)
    c.deref.ensures.value
    ∙ ap
    (λ (mask : List ℕ). equals_from (line_from start range m.word m.value.items (Some mask)) c.args.host c.args.content.now start range)
    c.bits_of.ensures
    ∙ equals_from-mask start range m.word m.value.items (mask_bytes m.mask) c.args.host c.args.content.now start range)

pub returns-clause-bytes : goal.returns-clause-bytes
returns-clause-bytes c =
    let m = out-Matchlet c.args.line.now in
    rw (plain_matchlet-out c.args.line.now)
    (counted-windows m.start m.range m.word m.value.items c.bits_of.result.now (mask_bytes m.mask) c.args.host c.args.content.now
    c.args.meter.now c.value_in_range.new.meter (rw c.deref.ensures.value at c.value_in_range.ensures.counts))
