use Rattle.std.proofs.Common.{◌≡◌, ◌+◌, ◌*◌, List, length}
use Rattle.std.specs.Prelude.{Ok}
use Rattle.mime_base.specs.declared.database.rule.GlobRule.{GlobRule}
use Rattle.mime_view.specs.Literals.{AreRun, ReadsRules}
use Rattle.mime_view.specs.Steps.{Searches, entries_part}
use Rattle.mime_view.proofs.LiteralLemmas.LiteralRuns.{RunLeft}
use Rattle.mime_view.proofs.literals.scan_entries.Given as goal

abbrev pub invariant-loop-i : goal.invariant-loop-i
invariant-loop-i l = record {
  left : (rules : List GlobRule) → length rules + l.start ≡ l.count → ReadsRules l.query.counted.now (l.first + 12 * l.start) rules
      → AreRun l.query.key.now rules
      → RunLeft l.query.counted.now l.first l.count l.query.case l.query.key.now rules l.fn.progress l.i l.progress;
  searches : Searches {X = Unit {0}} (entries_part l.query.counted.now l.first l.count) 256 0 l.fn.progress l.progress (Ok tt);
}
