use Rattle.std.proofs.Common.{refl, slice_index, arith}
use Rattle.std.proofs.lemmas.Result.{err_from_is_err_and}
use Rattle.mime_base.specs.Format.Stored.{glob_rules, literal_rules, tree_rules}
use Rattle.mime_load.specs.Lent.{plain_rules}
use Rattle.mime_load.specs.NameLists.{listed_rules}
use Rattle.mime_load.specs.declared.name_lists.NameLists.{NameLists}
use Rattle.mime_load.proofs.JoinedRules.{rules_limits, rules_stand}
use Rattle.mime_load.proofs.RoomLeft.{leaves_left, literals_left}
use Rattle.mime_load.proofs.Spelled.{header_at, offsets_of}
use Rattle.mime_load.proofs.SpelledParts.{names_read}
use Rattle.mime_load.proofs.name_lists.name_lists_of.Goals as goal

pub returns-clause-stand : goal.returns-clause-stand
returns-clause-stand c =
    let cache = c.args.source.now.counted.now in
    let numbers = c.in_ok-header.header in
    let lists : NameLists = record {
      aliases = c.in_ok-aliases.aliases;
      literals = c.in_ok-literals.literals;
      leaves = c.in_ok-leaves.leaves;
      globs = c.in_ok-globs.globs;
    } in
    let first = plain_rules lists.literals.items in
    let leaves = lists.leaves in
    let last = plain_rules lists.globs.items in
    record {
      offsets = offsets_of numbers;
      header = header_at cache numbers c.in_ok-header.ensures.header;
      aliases = c.in_ok-aliases.ensures.stand;
      rules =
          rules_stand cache (slice_index numbers 3) (slice_index numbers 4) (slice_index numbers 5) first leaves last (listed_rules lists) refl
          c.in_ok-literals.ensures.stand c.in_ok-leaves.ensures.stand c.in_ok-globs.ensures.stand;
      limits =
          rules_limits cache (slice_index numbers 3) (slice_index numbers 4) (slice_index numbers 5) first leaves last (listed_rules lists) refl
          c.in_ok-literals.ensures.stand c.in_ok-leaves.ensures.stand c.in_ok-globs.ensures.stand;
    }

pub returns-in_err-header-clause-need : goal.returns-in_err-header-clause-need
returns-in_err-header-clause-need c = λ aliases rules has within room.
    let p = err_from_is_err_and c.from_residual.result c.from_residual.ensures.1 in
    rw (p.1, p.2) (c.in_err-header.ensures.need has.offsets has.header within)

pub returns-in_err-aliases-clause-need : goal.returns-in_err-aliases-clause-need
returns-in_err-aliases-clause-need c = λ aliases rules has within room.
    let read = names_read c.args.source.now.counted.now c.in_ok-header.header aliases rules c.in_ok-header.ensures.header has in
    let p = err_from_is_err_and c.from_residual-in_err-aliases.result c.from_residual-in_err-aliases.ensures.1 in
    rw (p.1, p.2) (c.in_err-aliases.ensures.need aliases read.aliases)

pub returns-in_err-literals-clause-need : goal.returns-in_err-literals-clause-need
returns-in_err-literals-clause-need c = λ aliases rules has within room.
    let read = names_read c.args.source.now.counted.now c.in_ok-header.header aliases rules c.in_ok-header.ensures.header has in
    let p = err_from_is_err_and c.from_residual-in_err-literals.result c.from_residual-in_err-literals.ensures.1 in
    rw (p.1, p.2) (c.in_err-literals.ensures.need (literal_rules rules) read.literals
    (omega (arith, room, c.read_header.ensures.looks.records, c.aliases_at.ensures.looks.records)))

pub returns-in_err-leaves-clause-need : goal.returns-in_err-leaves-clause-need
returns-in_err-leaves-clause-need c = λ aliases rules has within room.
    let cache = c.args.source.now.counted.now in
    let read = names_read cache c.in_ok-header.header aliases rules c.in_ok-header.ensures.header has in
    let literals = literals_left cache (slice_index c.in_ok-header.header 3) c.aliases_at.new.taking.records c.literals_at.new.taking.records
    c.in_ok-literals.literals.items (literal_rules rules) c.in_ok-literals.ensures.stand read.literals c.in_ok-literals.ensures.taken in
    let p = err_from_is_err_and c.from_residual-in_err-leaves.result c.from_residual-in_err-leaves.ensures.1 in
    rw (p.1, p.2) (c.in_err-leaves.ensures.need (tree_rules rules) read.leaves
    (omega (arith, room, read.size, literals, c.read_header.ensures.looks.records, c.aliases_at.ensures.looks.records)))

pub returns-in_err-globs-clause-need : goal.returns-in_err-globs-clause-need
returns-in_err-globs-clause-need c = λ aliases rules has within room.
    let cache = c.args.source.now.counted.now in
    let read = names_read cache c.in_ok-header.header aliases rules c.in_ok-header.ensures.header has in
    let literals = literals_left cache (slice_index c.in_ok-header.header 3) c.aliases_at.new.taking.records c.literals_at.new.taking.records
    c.in_ok-literals.literals.items (literal_rules rules) c.in_ok-literals.ensures.stand read.literals c.in_ok-literals.ensures.taken in
    let leaves = leaves_left cache (slice_index c.in_ok-header.header 4) c.literals_at.new.taking.records c.leaves_at.new.taking.records
    c.in_ok-leaves.leaves (tree_rules rules) c.in_ok-leaves.ensures.stand read.leaves c.in_ok-leaves.ensures.taken in
    let p = err_from_is_err_and c.from_residual-in_err-globs.result c.from_residual-in_err-globs.ensures.1 in
    rw (p.1, p.2) (c.in_err-globs.ensures.need (glob_rules rules) read.globs
    (omega (arith, room, read.size, literals, leaves, c.read_header.ensures.looks.records, c.aliases_at.ensures.looks.records)))
