-- What stands before each part, where reading comes to it.
use Rattle.std.proofs.Common.{◌≡◌, arith, length}
use Rattle.mime_load.specs.declared.part.Part.TheVariants.{Aliases, Subclasses, Literals, Suffixes, Globs, Magic, Icons, GenericIcons}
use Rattle.mime_load.proofs.PartsRead.{Reaches}
use Rattle.mime_load.proofs.PartsRead.{after_aliases, after_globs, after_icons, after_leaves, after_literals, after_magic, after_parents}
use Rattle.mime_load.proofs.reading_back.lists_of.Goals as goal
use Rattle.mime_load.proofs.reading_back.lists_of.Goals.{In_ok-header, In_ok-aliases, In_ok-parents, In_ok-literals, In_ok-leaves}
use Rattle.mime_load.proofs.reading_back.lists_of.Goals.{In_ok-globs, In_ok-magic, In_ok-icons}

-- the header, before the aliases
pub to_aliases : (c : In_ok-header) → Reaches c.args.source.now.counted.now c.in_ok-header.header Aliases c.read_header.new.taking.records
to_aliases c = record {
  header = rw c.in_ok-header.ensures.read at c.read_header.ensures.header;
  stand = omega (arith, c.requires.room.0, c.read_header.ensures.looks.records);
}

-- then the aliases, before the parents
pub to_parents : (c : In_ok-aliases) → Reaches c.args.source.now.counted.now c.in_ok-header.header Subclasses c.aliases_at.new.taking.records
to_parents c =
    after_aliases _ _ _ _ c.in_ok-aliases.aliases.items (to_aliases (goal.at.In_ok-aliases c).In_ok-header)
    (rw c.in_ok-aliases.ensures.read at c.aliases_at.ensures.stand) c.aliases_at.ensures.looks.records

-- the parents, before the literals
pub to_literals : (c : In_ok-parents) → Reaches c.args.source.now.counted.now c.in_ok-header.header Literals c.parents_at.new.taking.records
to_literals c =
    after_parents _ _ _ _ c.in_ok-parents.parents.items (to_parents (goal.at.In_ok-parents c).In_ok-aliases)
    (rw c.in_ok-parents.ensures.read at c.parents_at.ensures.stand) (rw c.in_ok-parents.ensures.read at c.parents_at.ensures.taken)

-- the literals, before the tree
pub to_leaves : (c : In_ok-literals) → Reaches c.args.source.now.counted.now c.in_ok-header.header Suffixes c.literals_at.new.taking.records
to_leaves c =
    after_literals _ _ _ _ c.in_ok-literals.literals.items (to_literals (goal.at.In_ok-literals c).In_ok-parents)
    (rw c.in_ok-literals.ensures.read at c.literals_at.ensures.stand) (rw c.in_ok-literals.ensures.read at c.literals_at.ensures.taken)

-- the tree, before the globs
pub to_globs : (c : In_ok-leaves) → Reaches c.args.source.now.counted.now c.in_ok-header.header Globs c.leaves_at.new.taking.records
to_globs c =
    after_leaves _ _ _ _ c.in_ok-leaves.leaves (to_leaves (goal.at.In_ok-leaves c).In_ok-literals)
    (rw c.in_ok-leaves.ensures.read at c.leaves_at.ensures.stand) (rw c.in_ok-leaves.ensures.read at c.leaves_at.ensures.taken)

-- the globs, before magic
pub to_magic : (c : In_ok-globs) → Reaches c.args.source.now.counted.now c.in_ok-header.header Magic c.globs_at.new.taking.records
to_magic c =
    after_globs _ _ _ _ c.in_ok-globs.globs.items (to_globs (goal.at.In_ok-globs c).In_ok-leaves)
    (rw c.in_ok-globs.ensures.read at c.globs_at.ensures.stand) (rw c.in_ok-globs.ensures.read at c.globs_at.ensures.taken)

-- no room of values is taken before magic
pub values_left : (c : In_ok-globs) → c.globs_at.new.taking.value_bytes ≡ length c.args.source.now.counted.now
values_left c =
    omega (
      arith,
      c.requires.room.1,
      c.read_header.ensures.looks.takes.value_bytes,
      c.aliases_at.ensures.looks.takes.value_bytes,
      c.parents_at.ensures.takes.value_bytes,
      c.literals_at.ensures.takes.value_bytes,
      c.leaves_at.ensures.takes.value_bytes,
      c.globs_at.ensures.takes.value_bytes,
    )

-- magic, before the icons
pub to_icons : (c : In_ok-magic) → Reaches c.args.source.now.counted.now c.in_ok-header.header Icons c.magic_at.new.taking.records
to_icons c =
    let before = (goal.at.In_ok-magic c).In_ok-globs in
    after_magic _ _ c.globs_at.new.taking c.magic_at.new.taking c.in_ok-magic.magic (to_magic before) (values_left before)
    (rw c.in_ok-magic.ensures.read at c.magic_at.ensures.stand) (rw c.in_ok-magic.ensures.read at c.magic_at.ensures.taken)

-- and the icons, before the generic icons
pub to_generic_icons : (c : In_ok-icons)
    → Reaches c.args.source.now.counted.now c.in_ok-header.header GenericIcons c.icons_at.new.taking.records
to_generic_icons c =
    after_icons _ _ _ _ c.in_ok-icons.icons.items (to_icons (goal.at.In_ok-icons c).In_ok-magic)
    (rw c.in_ok-icons.ensures.read at c.icons_at.ensures.stand) (rw c.in_ok-icons.ensures.read at c.icons_at.ensures.taken)
