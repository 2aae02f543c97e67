use Rattle.std.proofs.Common.{ℕ, List, Some, ap, ◌∙◌}
use Rattle.mime_base.specs.Magic.Holds.{equals_from}
use Rattle.mime_base.specs.Magic.{line_from}
use Rattle.mime_base.proofs.MagicLemmas.HoldingLines.{equals_from-mask}
use Rattle.mime_base.proofs.MagicLemmas.WindowBytes.{counted-windows}
use Rattle.mime_load.specs.Lent.{lent_mask}
use Rattle.mime_load.proofs.holding.equals_in_range.Goals as goal

pub returns-clause-equal : goal.returns-clause-equal
returns-clause-equal c =
    let m = c.args.line.now in
    let start : ℕ = m.start in
    let range : ℕ = m.range in
    c.value_in_range.ensures.equal
    ∙ ap
    (λ (mask : List ℕ). equals_from (line_from start range m.word m.value.now (Some mask)) c.args.host c.args.content.now start range)
    c.bits_of.ensures
    ∙ equals_from-mask start range m.word m.value.now (lent_mask m.mask) c.args.host c.args.content.now start range

pub returns-clause-bytes : goal.returns-clause-bytes
returns-clause-bytes c =
    let m = c.args.line.now in
    counted-windows m.start m.range m.word m.value.now c.bits_of.result.now (lent_mask m.mask) c.args.host c.args.content.now
    c.args.meter.now c.value_in_range.new.meter c.value_in_range.ensures.counts
