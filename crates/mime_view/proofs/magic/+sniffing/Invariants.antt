use Rattle.std.proofs.Common.{◌≡◌, ◌+◌, ◌-◌, ◌*◌}
use Rattle.mime_base.specs.Format.Magic.{width}
use Rattle.mime_base.specs.Magic.{Forest}
use Rattle.mime_view.specs.Asked.{AsksLines, IsLineAmong}
use Rattle.mime_view.specs.Magic.{ReadsLines, line_price}
use Rattle.mime_view.specs.Spending.{Spends}
use Rattle.mime_view.specs.Walked.{EachOf, FailsAt}
use Rattle.mime_view.proofs.MagicLemmas.LinesLeft.{Left}
use Rattle.mime_view.proofs.magic.+sniffing.Given as goal

abbrev pub decreases-whole_line_holds : goal.decreases-whole_line_holds
decreases-whole_line_holds l = 5 * (64 - l.level)

abbrev pub decreases-holds_apart : goal.decreases-holds_apart
decreases-holds_apart l = 5 * (64 - l.level) + 1

abbrev pub decreases-line_holds : goal.decreases-line_holds
decreases-line_holds l = 5 * (64 - l.level) + 2

abbrev pub decreases-some_line_holds : goal.decreases-some_line_holds
decreases-some_line_holds l = 5 * (64 - l.level) + 3

abbrev pub decreases-some_child_holds : goal.decreases-some_child_holds
decreases-some_child_holds l = 5 * (64 - l.level) + 4

abbrev pub invariant-some_line_holds-loop-i : goal.invariant-some_line_holds-loop-i
invariant-some_line_holds-loop-i l = record {
  left : (lines : Forest) → width lines ≡ l.count → ReadsLines l.query.counted.now l.first lines
      → Left l.query (64 - l.level) l.start l.count lines l.initial.spending l.i l.spending;
  fails : EachOf (FailsAt (63 - l.level) l.query.counted.now l.query.content l.query.host) l.start 32 l.i;
  asked : AsksLines l.query.counted.now (IsLineAmong l.query.counted.now l.first l.count l.level) l.initial.spending.budget l.spending.budget;
  cost : Spends (line_price l.query) 0 0 l.initial.spending l.spending;
}
