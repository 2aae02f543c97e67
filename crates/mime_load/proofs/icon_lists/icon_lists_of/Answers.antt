use Rattle.std.proofs.lemmas.Result.{err_from_is_err_and}
use Rattle.mime_load.proofs.Spelled.{header_at, offsets_of}
use Rattle.mime_load.proofs.SpelledParts.{icons_read}
use Rattle.mime_load.proofs.icon_lists.icon_lists_of.Goals as goal

pub returns-clause-stand : goal.returns-clause-stand
returns-clause-stand c =
    let numbers = c.in_ok-header.header in
    record {
      offsets = offsets_of numbers;
      header = header_at c.args.source.now.counted.now numbers c.in_ok-header.ensures.header;
      aliases = rw c.from.ensures at c.in_ok-aliases.ensures.stand;
      icons = rw c.from-2.ensures at c.in_ok-icons.ensures.stand;
      generic_icons = rw c.from-3.ensures at c.in_ok-generic_icons.ensures.stand;
    }

pub returns-in_err-header-clause-need : goal.returns-in_err-header-clause-need
returns-in_err-header-clause-need c = λ aliases icons generic_icons has within.
    let p = err_from_is_err_and c.from_residual.result c.from_residual.ensures.1 in
    rw (p.1, p.2) (c.in_err-header.ensures.need has.offsets has.header within)

pub returns-in_err-aliases-clause-need : goal.returns-in_err-aliases-clause-need
returns-in_err-aliases-clause-need c = λ aliases icons generic_icons has within.
    let cache = c.args.source.now.counted.now in
    let read = icons_read cache c.in_ok-header.header aliases icons generic_icons c.in_ok-header.ensures.header has in
    let p = err_from_is_err_and c.from_residual-in_err-aliases.result c.from_residual-in_err-aliases.ensures.1 in
    rw (p.1, p.2) (c.in_err-aliases.ensures.need aliases (rw c.from.ensures read.aliases))

pub returns-in_err-icons-clause-need : goal.returns-in_err-icons-clause-need
returns-in_err-icons-clause-need c = λ aliases icons generic_icons has within.
    let cache = c.args.source.now.counted.now in
    let read = icons_read cache c.in_ok-header.header aliases icons generic_icons c.in_ok-header.ensures.header has in
    let p = err_from_is_err_and c.from_residual-in_err-icons.result c.from_residual-in_err-icons.ensures.1 in
    rw (p.1, p.2) (c.in_err-icons.ensures.need icons (rw c.from-2.ensures read.icons))

pub returns-in_err-generic_icons-clause-need : goal.returns-in_err-generic_icons-clause-need
returns-in_err-generic_icons-clause-need c = λ aliases icons generic_icons has within.
    let cache = c.args.source.now.counted.now in
    let read = icons_read cache c.in_ok-header.header aliases icons generic_icons c.in_ok-header.ensures.header has in
    let p = err_from_is_err_and c.from_residual-in_err-generic_icons.result c.from_residual-in_err-generic_icons.ensures.1 in
    rw (p.1, p.2) (c.in_err-generic_icons.ensures.need generic_icons (rw c.from-3.ensures read.generic_icons))
