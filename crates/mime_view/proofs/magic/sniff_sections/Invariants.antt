use Rattle.std.proofs.Common.{false, List, length}
use Rattle.mime_base.specs.Magic.{PlainSection}
use Rattle.mime_view.specs.Asked.{AsksLines}
use Rattle.mime_view.specs.Magic.{IsMagicLine, ReadsMagic, magic_price}
use Rattle.mime_view.specs.Spending.{Spends}
use Rattle.mime_view.specs.Walked.{EachOf, WalksSection}
use Rattle.mime_view.proofs.MagicLemmas.SectionsLeft.{Left}
use Rattle.mime_view.proofs.magic.sniff_sections.Given as goal

abbrev pub invariant-loop-i : goal.invariant-loop-i
invariant-loop-i l = record {
  left : (sections : List PlainSection) → ReadsMagic l.query.counted.now l.at sections
      → Left l.query l.first l.count sections l.fn.spending l.i l.spending;
  fails : EachOf (WalksSection l.query.counted.now l.query.content l.query.host false) l.first 16 l.i;
  asked : AsksLines l.query.counted.now (IsMagicLine l.query.counted.now l.at) l.fn.spending.budget l.spending.budget;
  cost : Spends (magic_price (length l.query.content)) 1 0 l.fn.spending l.spending;
}
