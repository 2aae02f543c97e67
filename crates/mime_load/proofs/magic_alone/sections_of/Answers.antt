use Rattle.std.proofs.Common.{arith}
use Rattle.std.proofs.lemmas.Result.{err_from_is_err_and}
use Rattle.mime_load.specs.Whole.{IsHeader}
use Rattle.mime_load.proofs.MagicAlone.{one_magic}
use Rattle.mime_load.proofs.Spelled.{header_at, offsets_of}
use Rattle.mime_load.proofs.SpelledParts.{magic_read}
use Rattle.mime_load.proofs.magic_alone.sections_of.Goals as goal

pub returns-clause-stand : goal.returns-clause-stand
returns-clause-stand c =
    let cache = c.args.source.now.counted.now in
    let numbers = c.in_ok-header.header in
    let header : IsHeader cache numbers = c.in_ok-header.ensures.header in
    record {
      offsets = offsets_of numbers;
      header = header_at cache numbers header;
      magic = c.in_ok-magic.ensures.stand;
    }

pub returns-clause-whole : goal.returns-clause-whole
returns-clause-whole c sections has = one_magic c.args.source.now.counted.now _ sections (returns-clause-stand c) has

pub returns-in_err-header-clause-need : goal.returns-in_err-header-clause-need
returns-in_err-header-clause-need c = λ sections has within room.
    let p = err_from_is_err_and c.from_residual.result c.from_residual.ensures.1 in
    rw (p.1, p.2) (c.in_err-header.ensures.need has.offsets has.header within)

pub returns-in_err-magic-clause-need : goal.returns-in_err-magic-clause-need
returns-in_err-magic-clause-need c = λ sections has within room.
    let stand = magic_read c.args.source.now.counted.now c.in_ok-header.header sections c.in_ok-header.ensures.header has in
    let p = err_from_is_err_and c.from_residual-in_err-magic.result c.from_residual-in_err-magic.ensures.1 in
    rw (p.1, p.2) (c.in_err-magic.ensures.need sections stand (record {
      records = omega (arith, room.records, c.read_header.ensures.looks.records);
      value_bytes = omega (arith, room.value_bytes, c.read_header.ensures.looks.takes.value_bytes);
    }))
