mod Reached
use Rattle.std.proofs.Common.{◌≡◌, arith, length}
use Rattle.mime_load.specs.Lent.{plain_magic}
use Rattle.mime_load.specs.Taking.{TakesSections}
use Rattle.mime_load.specs.declared.part.Part.TheVariants.{Header, Aliases, Subclasses, Literals, Suffixes, Globs, Magic, Icons, GenericIcons}
use Rattle.mime_load.proofs.PartsRead.{names_first, stops}
use Rattle.mime_load.proofs.Spelled.{are_lists, header_at, offsets_of}
use Rattle.mime_load.proofs.reading_back.lists_of.Answers.Reached.{to_aliases, to_generic_icons, to_globs, to_icons, to_leaves}
use Rattle.mime_load.proofs.reading_back.lists_of.Answers.Reached.{to_literals, to_magic, to_parents, values_left}
use Rattle.mime_load.proofs.reading_back.lists_of.Goals as goal

pub returns-in_err-header-clause-first : goal.returns-in_err-header-clause-first
returns-in_err-header-clause-first c =
    let cache = c.args.source.now.counted.now in
    names_first cache Header _ _ c.from_residual.ensures.1 c.in_err-header.ensures.named (λ short numbers header.
    short (c.read_header.ensures.need (offsets_of numbers) (header_at cache numbers header) header.within))

pub returns-in_err-aliases-clause-first : goal.returns-in_err-aliases-clause-first
returns-in_err-aliases-clause-first c =
    names_first _ Aliases _ _ c.from_residual-in_err-aliases.ensures.1 c.in_err-aliases.ensures.named (λ short.
    stops _ _ _ _ (to_aliases (goal.at.returns-in_err-aliases-clause-first c).In_ok-header) (λ new stands.
    short (c.aliases_at.ensures.need stands.0 stands.1)))

pub returns-in_err-parents-clause-first : goal.returns-in_err-parents-clause-first
returns-in_err-parents-clause-first c =
    names_first _ Subclasses _ _ c.from_residual-in_err-parents.ensures.1 c.in_err-parents.ensures.named (λ short.
    stops _ _ _ _ (to_parents (goal.at.returns-in_err-parents-clause-first c).In_ok-aliases) (λ new stands.
    short (c.parents_at.ensures.need stands.0 stands.1 (omega (arith, stands.2)))))

pub returns-in_err-literals-clause-first : goal.returns-in_err-literals-clause-first
returns-in_err-literals-clause-first c =
    names_first _ Literals _ _ c.from_residual-in_err-literals.ensures.1 c.in_err-literals.ensures.named (λ short.
    stops _ _ _ _ (to_literals (goal.at.returns-in_err-literals-clause-first c).In_ok-parents) (λ new stands.
    short (c.literals_at.ensures.need stands.0 stands.1 (omega (arith, stands.2)))))

pub returns-in_err-leaves-clause-first : goal.returns-in_err-leaves-clause-first
returns-in_err-leaves-clause-first c =
    names_first _ Suffixes _ _ c.from_residual-in_err-leaves.ensures.1 c.in_err-leaves.ensures.named (λ short.
    stops _ _ _ _ (to_leaves (goal.at.returns-in_err-leaves-clause-first c).In_ok-literals) (λ new stands.
    short (c.leaves_at.ensures.need stands.0 stands.1 (omega (arith, stands.2)))))

pub returns-in_err-globs-clause-first : goal.returns-in_err-globs-clause-first
returns-in_err-globs-clause-first c =
    names_first _ Globs _ _ c.from_residual-in_err-globs.ensures.1 c.in_err-globs.ensures.named (λ short.
    stops _ _ _ _ (to_globs (goal.at.returns-in_err-globs-clause-first c).In_ok-leaves) (λ new stands.
    short (c.globs_at.ensures.need stands.0 stands.1 (omega (arith, stands.2)))))

pub returns-in_err-magic-clause-first : goal.returns-in_err-magic-clause-first
returns-in_err-magic-clause-first c =
    let before = (goal.at.returns-in_err-magic-clause-first c).In_ok-globs in
    names_first _ Magic _ _ c.from_residual-in_err-magic.ensures.1 c.in_err-magic.ensures.named (λ short.
    stops _ _ _ _ (to_magic before) (λ new stands.
    short (c.magic_at.ensures.need stands.0 stands.1 (record {
      records = omega (arith, stands.3);
      value_bytes = omega (arith, stands.2, values_left before);
    }))))

pub returns-in_err-icons-clause-first : goal.returns-in_err-icons-clause-first
returns-in_err-icons-clause-first c =
    names_first _ Icons _ _ c.from_residual-in_err-icons.ensures.1 c.in_err-icons.ensures.named (λ short.
    stops _ _ _ _ (to_icons (goal.at.returns-in_err-icons-clause-first c).In_ok-magic) (λ new stands.
    short (c.icons_at.ensures.need stands.0 stands.1 (omega (arith, stands.2)))))

pub returns-in_err-generic_icons-clause-first : goal.returns-in_err-generic_icons-clause-first
returns-in_err-generic_icons-clause-first c =
    names_first _ GenericIcons _ _ c.from_residual-in_err-generic_icons.ensures.1 c.in_err-generic_icons.ensures.named (λ short.
    stops _ _ _ _ (to_generic_icons (goal.at.returns-in_err-generic_icons-clause-first c).In_ok-icons) (λ new stands.
    short (c.icons_at-2.ensures.need stands.0 stands.1 (omega (arith, stands.2)))))

pub returns-clause-lists : goal.returns-clause-lists
returns-clause-lists c =
    let reached = (goal.at.returns-clause-lists c).In_ok-icons in
    let before = (goal.at.In_ok-icons reached).In_ok-globs in
    let took : TakesSections c.globs_at.new.taking c.magic_at.new.taking (plain_magic c.in_ok-magic.magic) =
    rw c.in_ok-magic.ensures.read at c.magic_at.ensures.taken in
    are_lists c.args.source.now.counted.now c.in_ok-header.header _ (to_generic_icons reached).header
    (rw c.in_ok-aliases.ensures.read at c.aliases_at.ensures.stand) (rw c.in_ok-parents.ensures.read at c.parents_at.ensures.stand)
    (rw c.in_ok-literals.ensures.read at c.literals_at.ensures.stand) (rw c.in_ok-leaves.ensures.read at c.leaves_at.ensures.stand)
    (rw c.in_ok-globs.ensures.read at c.globs_at.ensures.stand) (rw c.in_ok-magic.ensures.read at c.magic_at.ensures.stand)
    (rw c.in_ok-icons.ensures.read at c.icons_at.ensures.stand)
    (rw c.in_ok-generic_icons.ensures.read at c.icons_at-2.ensures.stand)
    _ _ _ (to_generic_icons reached) (rw c.in_ok-generic_icons.ensures.read at c.icons_at-2.ensures.taken) c.requires.room.0
    (omega (
      arith,
      values_left before,
      took.value_bytes,
      c.icons_at.ensures.takes.value_bytes,
      c.icons_at-2.ensures.takes.value_bytes,
      c.requires.room.1,
    ))
