use Rattle.std.proofs.Common.{◌≡◌, ◌+◌, ◌*◌, length}
use Rattle.std.specs.List.Sorted.{IsSortedBy}
use Rattle.mime_base.specs.Cache.Bytes.{Stands}
use Rattle.mime_base.specs.Format.Pairs.{IsPair}
use Rattle.mime_base.specs.Format.Records.{RecordsAt}
use Rattle.mime_load.specs.Lent.{plain_pairs}
use Rattle.mime_load.specs.Taking.{OnlyLooks}
use Rattle.mime_load.proofs.PairLemmas.{named_before}
use Rattle.mime_load.proofs.pairs.pairs_at.Given as goal

abbrev pub invariant-loop-i : goal.invariant-loop-i
invariant-loop-i l = record {
  size : length l.pairs.items ≡ l.i;
  sorted : IsSortedBy named_before (plain_pairs l.pairs.items);
  stand : RecordsAt (Stands l.source.counted.now) 8 (IsPair (Stands l.source.counted.now)) (l.at + 4) (plain_pairs l.pairs.items);
  looks : OnlyLooks l.i (2 * l.i) l.initial.taking l.taking;
}
