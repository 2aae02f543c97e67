use Rattle.std.proofs.Common.{arith}
use Rattle.mime_store.proofs.CacheLemmas.Spelled.{parts_room-is}
use Rattle.mime_store.proofs.cache.size_within.Goals as goal

pub returns-in_err-left : goal.returns-in_err-left
returns-in_err-left c =
    rw c.from_residual.ensures (omega (
      arith,
      c.in_err-left.ensures,
      parts_room-is c.args.parts.now c.args.runs.now c.args.database.now c.requires.parts c.requires.runs,
    ))

pub returns : goal.returns
returns c =
    let is = parts_room-is c.args.parts.now c.args.runs.now c.args.database.now c.requires.parts c.requires.runs in
    (omega (arith, c.in_ok-left.ensures, is), omega (arith, c.in_ok-left.ensures))
