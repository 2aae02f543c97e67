use Rattle.mime_base.specs.Magic.{plain_matchlet}
use Rattle.mime_base.proofs.MagicLemmas.HoldingMatchlets.{plain_matchlet-out}
use Rattle.mime_lookup.proofs.IndexLemmas.LineHeads.{head_of_line}
use Rattle.mime_lookup.proofs.indexed.magic_line.MatchletsMagicLinesRefMatchlet.head.Goals as goal

pub returns : goal.returns
returns c =
    let m = c.args.line.now.now in
    head_of_line c.head_of.result (plain_matchlet m)
    (rw (plain_matchlet-out m) (rw (c.deref.ensures.value, c.lent_bits-mask.ensures) at c.head_of.ensures))
