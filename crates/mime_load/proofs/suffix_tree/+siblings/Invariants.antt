use Rattle.std.proofs.Common.{◌≡◌, ◌+◌, ◌-◌, ◌*◌, ◌≤◌, length}
use Rattle.mime_load.specs.Taking.{TakesOnlyRecords}
use Rattle.mime_load.specs.Walks.{IsNext, Walked}
use Rattle.mime_load.proofs.suffix_tree.+siblings.Given as goal

abbrev pub decreases-read_sibling : goal.decreases-read_sibling
decreases-read_sibling l = 2 * (254 - length l.walk.now.ending)

abbrev pub decreases-read_siblings : goal.decreases-read_siblings
decreases-read_siblings l = 2 * (254 - length l.walk.now.ending) + 1

abbrev pub invariant-read_siblings-loop-done : goal.invariant-read_siblings-loop-done
invariant-read_siblings-loop-done l = record {
  walked : Walked l.source.counted.now (l.first + 12 * (l.count - l.done)) l.done l.initial.walk.ending l.next l.initial.walk.leaves
      l.walk.leaves l.initial.walk.taking.records l.walk.taking.records;
  is_next : IsNext l.source.counted.now (l.first + 12 * (l.count - l.done)) l.done l.next;
  ending : l.walk.ending ≡ l.initial.walk.ending;
  some : 1 ≤ l.next;
  fits : l.next ≤ 256;
  takes : TakesOnlyRecords 0 0 l.initial.walk.taking l.walk.taking;
}
