use Rattle.std.proofs.Common.{◌≡◌, get_or, length, rules, subst, arith}
use Rattle.std.proofs.lemmas.Result.{err_from_is_err_and}
use Rattle.mime_base.specs.Cache.Bytes.{Stands}
use Rattle.mime_base.specs.Format.Records.{CardsAt}
use Rattle.mime_load.proofs.ParentsRead.{entry_inside, entry_read}
use Rattle.mime_load.proofs.TreeWalks.{two}
use Rattle.mime_load.proofs.parents.read_entry.Goals as goal

pub returns-clause-entry : goal.returns-clause-entry
returns-clause-entry c =
    let numbers = c.in_ok-numbers.numbers in
    record {
      kind_at = get_or numbers 0 0;
      list = get_or numbers 1 0;
      cards = subst (CardsAt (Stands c.args.source.now.counted.now) c.args.at) (two numbers (search rules)) c.in_ok-numbers.ensures.stand;
      text = c.in_ok-kind.ensures.stands;
      adds = rw c.from.ensures at c.in_ok-read_parents.ensures.adds;
    }

pub returns-in_err-numbers-clause-need : goal.returns-in_err-numbers-clause-need
returns-in_err-numbers-clause-need c = λ kind targets stands some room.
    absurd (omega (arith, entry_inside c.args.source.now.counted.now c.args.at kind targets stands, c.in_err-numbers.ensures.fault))

pub returns-in_err-kind-clause-need : goal.returns-in_err-kind-clause-need
returns-in_err-kind-clause-need c =
    let long : length c.in_ok-numbers.numbers ≡ 2 = search rules in λ kind targets stands some room.
    let read = entry_read c.args.source.now.counted.now c.args.at c.in_ok-numbers.numbers kind targets long c.in_ok-numbers.ensures.stand
    stands in
    let p = err_from_is_err_and c.from_residual-in_err-kind.result c.from_residual-in_err-kind.ensures.1 in
    rw (p.1, p.2) (c.in_err-kind.ensures.need kind read.text)

pub returns-in_err-read_parents-clause-need : goal.returns-in_err-read_parents-clause-need
returns-in_err-read_parents-clause-need c =
    let long : length c.in_ok-numbers.numbers ≡ 2 = search rules in λ kind targets stands some room.
    let read = entry_read c.args.source.now.counted.now c.args.at c.in_ok-numbers.numbers kind targets long c.in_ok-numbers.ensures.stand
    stands in
    let need = rw c.from.ensures at c.in_err-read_parents.ensures.need in
    let p = err_from_is_err_and c.from_residual-in_err-read_parents.result c.from_residual-in_err-read_parents.ensures.1 in
    rw (p.1, p.2) (need targets read.stand some (omega (arith, room, c.read_numbers.ensures.looks.records, c.read_text.ensures.looks.records)))
