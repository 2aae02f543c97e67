use Rattle.std.proofs.Common.{arith, map}
use Rattle.mime_base.specs.Format.Runs.{AreRuns}
use Rattle.mime_store.specs.Runs.{plain_run}
use Rattle.mime_store.specs.Views.{pair_texts}
use Rattle.mime_store.proofs.CacheLemmas.Spelled.{parts_room-is}
use Rattle.mime_store.proofs.cache.write_cache.Goals as goal

pub runs-requires : goal.runs-requires
runs-requires c = rw c.deref.ensures.value (record { sorted = c.in_ok-parts.ensures.parents.in_order })

pub size_within-requires-clause-runs : goal.size_within-requires-clause-runs
size_within-requires-clause-runs c = rw c.deref-2.ensures.value (rw c.deref.ensures.value at c.in_ok-runs.ensures)

pub write_parts-requires-clause-runs : goal.write_parts-requires-clause-runs
write_parts-requires-clause-runs c = rw c.deref-3.ensures.value (rw c.deref.ensures.value at c.in_ok-runs.ensures)

pub write_parts-requires-clause-room : goal.write_parts-requires-clause-room
write_parts-requires-clause-room c =
    let parts = c.in_ok-parts.parts in
    let runs : AreRuns (map plain_run c.deref-3.result.now) (map pair_texts parts.parents.items) =
    rw c.deref-3.ensures.value (rw c.deref.ensures.value at c.in_ok-runs.ensures) in
    omega (
      arith,
      parts_room-is parts c.deref-3.result.now c.args.database.now c.in_ok-parts.ensures runs,
      c.in-Some.ensures.0,
      c.in-Some.ensures.1,
      c.lesser.ensures,
    )
