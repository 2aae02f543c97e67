use Rattle.std.proofs.Common.{◌≡◌, ◌+◌, ◌*◌, length}
use Rattle.std.specs.List.{All}
use Rattle.std.specs.List.Sorted.{IsSortedBy}
use Rattle.mime_base.specs.Cache.Bytes.{Stands}
use Rattle.mime_base.specs.Database.Limits.{KeepsLimits}
use Rattle.mime_base.specs.Format.Records.{RecordsAt}
use Rattle.mime_base.specs.Format.Rules.{IsRule}
use Rattle.mime_load.specs.Lent.{plain_rules}
use Rattle.mime_load.specs.Parts.{IsStoredLiteral}
use Rattle.mime_load.specs.Taking.{TakesOnlyRecords}
use Rattle.mime_load.proofs.RuleLists.{stored_before}
use Rattle.mime_load.proofs.rules.literals_at.Given as goal

abbrev pub invariant-loop-i : goal.invariant-loop-i
invariant-loop-i l = record {
  size : length l.rules.items ≡ l.i;
  fit : All IsStoredLiteral (plain_rules l.rules.items);
  limits : All KeepsLimits (plain_rules l.rules.items);
  sorted : IsSortedBy stored_before (plain_rules l.rules.items);
  stand : RecordsAt (Stands l.source.counted.now) 12 (IsRule (Stands l.source.counted.now)) (l.start + 4) (plain_rules l.rules.items);
  records : l.taking.records + 12 * l.i ≡ l.initial.taking.records;
  takes : TakesOnlyRecords 0 0 l.initial.taking l.taking;
}
