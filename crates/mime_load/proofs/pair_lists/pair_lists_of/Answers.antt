use Rattle.std.proofs.Common.{arith}
use Rattle.std.proofs.lemmas.Result.{err_from_is_err_and}
use Rattle.mime_load.proofs.Spelled.{header_at, offsets_of}
use Rattle.mime_load.proofs.SpelledParts.{pairs_read}
use Rattle.mime_load.proofs.pair_lists.pair_lists_of.Goals as goal

pub returns-clause-stand : goal.returns-clause-stand
returns-clause-stand c =
    let numbers = c.in_ok-header.header in
    record {
      offsets = offsets_of numbers;
      header = header_at c.args.source.now.counted.now numbers c.in_ok-header.ensures.header;
      aliases = c.in_ok-aliases.ensures.stand;
      parents = c.in_ok-parents.ensures.stand;
    }

pub returns-in_err-header-clause-need : goal.returns-in_err-header-clause-need
returns-in_err-header-clause-need c = λ aliases parents has within room.
    let p = err_from_is_err_and c.from_residual.result c.from_residual.ensures.1 in
    rw (p.1, p.2) (c.in_err-header.ensures.need has.offsets has.header within)

pub returns-in_err-aliases-clause-need : goal.returns-in_err-aliases-clause-need
returns-in_err-aliases-clause-need c = λ aliases parents has within room.
    let read = pairs_read c.args.source.now.counted.now c.in_ok-header.header aliases parents c.in_ok-header.ensures.header has in
    let p = err_from_is_err_and c.from_residual-in_err-aliases.result c.from_residual-in_err-aliases.ensures.1 in
    rw (p.1, p.2) (c.in_err-aliases.ensures.need aliases read.aliases)

pub returns-in_err-parents-clause-need : goal.returns-in_err-parents-clause-need
returns-in_err-parents-clause-need c = λ aliases parents has within room.
    let read = pairs_read c.args.source.now.counted.now c.in_ok-header.header aliases parents c.in_ok-header.ensures.header has in
    let p = err_from_is_err_and c.from_residual-in_err-parents.result c.from_residual-in_err-parents.ensures.1 in
    rw (p.1, p.2) (c.in_err-parents.ensures.need parents read.parents
    (omega (arith, room, c.read_header.ensures.looks.records, c.aliases_at.ensures.looks.records)))
