use Rattle.std.proofs.Common.{arith}
use Rattle.std.proofs.lemmas.List.{length-map}
use Rattle.std.proofs.lemmas.Result.{err_from_is_err_and}
use Rattle.mime_load.specs.Lent.{plain_pair, plain_pairs}
use Rattle.mime_load.proofs.PairLemmas.{same_pairs_count}
use Rattle.mime_load.proofs.pairs.icons_at.Goals as goal

pub returns-in_err-pairs-clause-need : goal.returns-in_err-pairs-clause-need
returns-in_err-pairs-clause-need c = λ pairs stand room.
    let need = rw c.from.ensures at c.in_err-pairs.ensures.need in
    let p = err_from_is_err_and c.from_residual.result c.from_residual.ensures.1 in
    rw (p.1, p.2) (need pairs stand)

pub returns-in_err-take_records-clause-need : goal.returns-in_err-take_records-clause-need
returns-in_err-take_records-clause-need c = λ pairs stand room.
    let read = rw c.from.ensures at c.in_ok-pairs.ensures.stand in
    let count = same_pairs_count c.args.source.now.counted.now c.args.at (plain_pairs c.in_ok-pairs.pairs.items) pairs read stand in
    absurd (omega (
      arith,
      room,
      count,
      length-map c.in_ok-pairs.pairs.items plain_pair,
      c.pairs_at.ensures.looks.records,
      c.len.ensures,
      c.in_err-take_records.ensures.fault,
    ))
