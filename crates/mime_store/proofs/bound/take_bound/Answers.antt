use Rattle.std.proofs.Common.{arith}
use Rattle.mime_base.specs.Database.PlainPairs.{plain_pairs}
use Rattle.mime_store.proofs.BoundLemmas.Parents.{parents_room-bounded}
use Rattle.mime_store.proofs.bound.take_bound.Goals as goal

pub returns : goal.returns
returns c =
    let database = c.args.database.now in
    omega (
      arith,
      c.in_ok-left.ensures,
      rw c.deref.ensures.value at c.in_ok-left-2.ensures,
      rw c.deref-2.ensures.value at c.in_ok-left-3.ensures,
      rw c.deref-3.ensures.value at c.in_ok-left-4.ensures,
      rw c.deref-4.ensures.value at c.in_ok-left-5.ensures,
      rw c.deref-5.ensures.value at c.in_ok-left-6.ensures,
      rw c.deref-6.ensures.value at c.in_ok-rest.ensures,
      parents_room-bounded (plain_pairs database.parents.items),
    )
