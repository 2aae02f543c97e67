use Rattle.std.proofs.Common.{arith, ◌∙◌, ◌≡◌, length}
use Rattle.mime_base.specs.Format.Header.{Offsets}
use Rattle.mime_store.specs.Parts.{parts_room}
use Rattle.mime_store.proofs.CacheLemmas.Spelling.{cache_length, cache_spells, kept_length, no_namespaces, offsets_of}
use Rattle.mime_store.proofs.CacheLemmas.Packing.{room_packs}
use Rattle.mime_store.proofs.CacheLemmas.Spelled.{parts_room-is}
use Rattle.mime_store.proofs.BytesLemmas.Written.{grew_length}
use Rattle.mime_store.proofs.cache.write_parts.Goals as goal

pub write_list-requires-4-clause-room : goal.write_list-requires-4-clause-room
write_list-requires-4-clause-room c =
    rw c.deref-4.ensures.value (omega (
      arith,
      c.requires.room,
      kept_length _ _ c.in_ok-out.ensures.items c.in_ok-append_zeros.ensures,
      grew_length _ _ _ (rw c.deref.ensures.value at c.in_ok-aliases.ensures.grew),
      grew_length _ _ _ c.in_ok-parents.ensures.grew,
      grew_length _ _ _ (rw c.deref-2.ensures.value at c.in_ok-literals.ensures.grew),
      grew_length _ _ _ (rw c.deref-3.ensures.value at c.in_ok-tree.ensures.grew),
    ))

pub write_magic-requires-clause-room : goal.write_magic-requires-clause-room
write_magic-requires-clause-room c =
    rw c.deref-5.ensures.value (omega (
      arith,
      c.requires.room,
      kept_length _ _ c.in_ok-out.ensures.items c.in_ok-append_zeros.ensures,
      grew_length _ _ _ (rw c.deref.ensures.value at c.in_ok-aliases.ensures.grew),
      grew_length _ _ _ c.in_ok-parents.ensures.grew,
      grew_length _ _ _ (rw c.deref-2.ensures.value at c.in_ok-literals.ensures.grew),
      grew_length _ _ _ (rw c.deref-3.ensures.value at c.in_ok-tree.ensures.grew),
      grew_length _ _ _ (rw c.deref-4.ensures.value at c.in_ok-globs.ensures.grew),
    ))

pub append_list-requires-clause-room : goal.append_list-requires-clause-room
append_list-requires-clause-room c =
    omega (
      arith,
      c.requires.room,
      kept_length _ _ c.in_ok-out.ensures.items c.in_ok-append_zeros.ensures,
      grew_length _ _ _ (rw c.deref.ensures.value at c.in_ok-aliases.ensures.grew),
      grew_length _ _ _ c.in_ok-parents.ensures.grew,
      grew_length _ _ _ (rw c.deref-2.ensures.value at c.in_ok-literals.ensures.grew),
      grew_length _ _ _ (rw c.deref-3.ensures.value at c.in_ok-tree.ensures.grew),
      grew_length _ _ _ (rw c.deref-4.ensures.value at c.in_ok-globs.ensures.grew),
      grew_length _ _ _ (rw c.deref-5.ensures.value at c.in_ok-magic.ensures.grew),
    )

pub write_list-requires-5-clause-room : goal.write_list-requires-5-clause-room
write_list-requires-5-clause-room c =
    rw c.deref-6.ensures.value (omega (
      arith,
      c.requires.room,
      kept_length _ _ c.in_ok-out.ensures.items c.in_ok-append_zeros.ensures,
      grew_length _ _ _ (rw c.deref.ensures.value at c.in_ok-aliases.ensures.grew),
      grew_length _ _ _ c.in_ok-parents.ensures.grew,
      grew_length _ _ _ (rw c.deref-2.ensures.value at c.in_ok-literals.ensures.grew),
      grew_length _ _ _ (rw c.deref-3.ensures.value at c.in_ok-tree.ensures.grew),
      grew_length _ _ _ (rw c.deref-4.ensures.value at c.in_ok-globs.ensures.grew),
      grew_length _ _ _ (rw c.deref-5.ensures.value at c.in_ok-magic.ensures.grew),
      grew_length _ _ _ c.in_ok-namespaces.ensures.grew,
    ))

pub write_list-requires-6-clause-room : goal.write_list-requires-6-clause-room
write_list-requires-6-clause-room c =
    rw c.deref-7.ensures.value (omega (
      arith,
      c.requires.room,
      kept_length _ _ c.in_ok-out.ensures.items c.in_ok-append_zeros.ensures,
      grew_length _ _ _ (rw c.deref.ensures.value at c.in_ok-aliases.ensures.grew),
      grew_length _ _ _ c.in_ok-parents.ensures.grew,
      grew_length _ _ _ (rw c.deref-2.ensures.value at c.in_ok-literals.ensures.grew),
      grew_length _ _ _ (rw c.deref-3.ensures.value at c.in_ok-tree.ensures.grew),
      grew_length _ _ _ (rw c.deref-4.ensures.value at c.in_ok-globs.ensures.grew),
      grew_length _ _ _ (rw c.deref-5.ensures.value at c.in_ok-magic.ensures.grew),
      grew_length _ _ _ c.in_ok-namespaces.ensures.grew,
      grew_length _ _ _ (rw c.deref-6.ensures.value at c.in_ok-icons.ensures.grew),
    ))

pub write_tree-requires-clause-rises : goal.write_tree-requires-clause-rises
write_tree-requires-clause-rises c = rw c.deref-3.ensures.value c.requires.parts.endings.rises

pub returns-clause-long : goal.returns-clause-long
returns-clause-long c =
    let whole : length c.write_list-6.new.out.items ≡ parts_room c.args.parts.now c.args.runs.now c.args.database.now.sections.items = omega (
      arith,
      kept_length _ _ c.in_ok-out.ensures.items c.in_ok-append_zeros.ensures,
      grew_length _ _ _ (rw c.deref.ensures.value at c.in_ok-aliases.ensures.grew),
      grew_length _ _ _ c.in_ok-parents.ensures.grew,
      grew_length _ _ _ (rw c.deref-2.ensures.value at c.in_ok-literals.ensures.grew),
      grew_length _ _ _ (rw c.deref-3.ensures.value at c.in_ok-tree.ensures.grew),
      grew_length _ _ _ (rw c.deref-4.ensures.value at c.in_ok-globs.ensures.grew),
      grew_length _ _ _ (rw c.deref-5.ensures.value at c.in_ok-magic.ensures.grew),
      grew_length _ _ _ c.in_ok-namespaces.ensures.grew,
      grew_length _ _ _ (rw c.deref-6.ensures.value at c.in_ok-icons.ensures.grew),
      grew_length _ _ _ (rw c.deref-7.ensures.value at c.in_ok-generic_icons.ensures.grew),
    ) in
    let offsets : Offsets = offsets_of c.in_ok-aliases.aliases c.in_ok-parents.parents c.in_ok-literals.literals c.in_ok-tree.tree
    c.in_ok-globs.globs c.in_ok-magic.magic c.in_ok-namespaces.namespaces c.in_ok-icons.icons c.in_ok-generic_icons.generic_icons in
    cache_length c.write_list-6.new.out.items _ offsets (omega (arith, whole)) c.patch.ensures.after
    ∙ omega (arith, whole, parts_room-is c.args.parts.now c.args.runs.now c.args.database.now c.requires.parts c.requires.runs)

pub returns-clause-packed : goal.returns-clause-packed
returns-clause-packed c = room_packs _ _ (returns-clause-long c)

pub returns-clause-no_namespaces : goal.returns-clause-no_namespaces
returns-clause-no_namespaces c =
    let offsets : Offsets = offsets_of c.in_ok-aliases.aliases c.in_ok-parents.parents c.in_ok-literals.literals c.in_ok-tree.tree
    c.in_ok-globs.globs c.in_ok-magic.magic c.in_ok-namespaces.namespaces c.in_ok-icons.icons c.in_ok-generic_icons.generic_icons in
    no_namespaces _ _ _ _ offsets _ _ c.in_ok-namespaces.ensures.count
    (rw c.deref-6.ensures.value at c.in_ok-icons.ensures.grew)
    (rw c.deref-7.ensures.value at c.in_ok-generic_icons.ensures.grew)
    c.patch.ensures.after c.patch.ensures.stand

pub returns-clause-spells : goal.returns-clause-spells
returns-clause-spells c =
    let offsets : Offsets = offsets_of c.in_ok-aliases.aliases c.in_ok-parents.parents c.in_ok-literals.literals c.in_ok-tree.tree
    c.in_ok-globs.globs c.in_ok-magic.magic c.in_ok-namespaces.namespaces c.in_ok-icons.icons c.in_ok-generic_icons.generic_icons in
    cache_spells _ _ _ _ _ _ _ _ _ _ c.args.parts.now _ c.args.database.now offsets _ _ _ _ _ _ _ _ c.requires.parts c.requires.runs
    (rw c.deref.ensures.value at c.in_ok-aliases.ensures.stands)
    c.in_ok-parents.ensures.grew
    c.in_ok-parents.ensures.stands
    (rw c.deref-2.ensures.value at c.in_ok-literals.ensures.grew)
    (rw c.deref-2.ensures.value at c.in_ok-literals.ensures.stands)
    (rw c.deref-3.ensures.value at c.in_ok-tree.ensures.grew)
    (rw c.deref-3.ensures.value at c.in_ok-tree.ensures.stands)
    (rw c.deref-4.ensures.value at c.in_ok-globs.ensures.grew)
    (rw c.deref-4.ensures.value at c.in_ok-globs.ensures.stands)
    (rw c.deref-5.ensures.value at c.in_ok-magic.ensures.grew)
    (rw c.deref-5.ensures.value at c.in_ok-magic.ensures.stands)
    c.in_ok-namespaces.ensures.grew
    (rw c.deref-6.ensures.value at c.in_ok-icons.ensures.grew)
    (rw c.deref-6.ensures.value at c.in_ok-icons.ensures.stands)
    (rw c.deref-7.ensures.value at c.in_ok-generic_icons.ensures.grew)
    (rw c.deref-7.ensures.value at c.in_ok-generic_icons.ensures.stands)
    c.patch.ensures.after c.patch.ensures.stand
    (omega (
      arith,
      c.requires.room,
      parts_room-is c.args.parts.now c.args.runs.now c.args.database.now c.requires.parts c.requires.runs,
      returns-clause-long c,
    ))
