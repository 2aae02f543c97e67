use Rattle.std.proofs.Common.{arith, map, length, ap, refl, lit<}
use Rattle.std.proofs.lemmas.List.{length-map}
use Rattle.mime_base.specs.Format.Magic.{IsSectionRecord}
use Rattle.mime_base.specs.Magic.{plain_section, plain_sections}
use Rattle.mime_store.specs.Lines.{section_parts_room}
use Rattle.mime_store.proofs.ListLemmas.Gather.{gather_end, rows_room}
use Rattle.mime_store.proofs.MagicLemmas.Extents.{allowed_extents}
use Rattle.mime_store.proofs.MagicLemmas.Sections.{magic_stands}
use Rattle.mime_store.proofs.BytesLemmas.Records.{members_fit, parts_within}
use Rattle.mime_store.proofs.BytesLemmas.Written.{grew_length, grew_on, grew_to}
use Rattle.mime_store.proofs.magic.write_magic.Goals as goal

pub gather-requires-clause-fits : goal.gather-requires-clause-fits
gather-requires-clause-fits c =
    omega (arith, c.requires.room, parts_within 4 section_parts_room (map plain_section c.args.sections.now))

pub append_numbers-requires-clause-room : goal.append_numbers-requires-clause-room
append_numbers-requires-clause-room c =
    omega (
      arith,
      c.requires.room,
      grew_length _ _ _ c.in_ok-records.ensures.grew,
      rows_room IsSectionRecord 4 section_parts_room _ _ _ c.in_ok-records.ensures.gathered,
      ap length c.as_slice.ensures,
    )

pub append_numbers-requires-clause-begun : goal.append_numbers-requires-clause-begun
append_numbers-requires-clause-begun c = omega (arith, c.requires.begun, grew_length _ _ _ c.in_ok-records.ensures.grew)

pub overflow_cast-sections : goal.overflow_cast-sections
overflow_cast-sections c =
    let xs = c.args.sections.now in
    omega (arith, c.requires.room, length-map xs plain_section, members_fit 4 section_parts_room (lit< tt) (map plain_section xs))

pub overflow_cast-extent : goal.overflow_cast-extent
overflow_cast-extent c = omega (arith, allowed_extents (plain_sections c.args.sections.now) c.requires.allowed, c.extent.ensures)

pub append_numbers-requires-2-clause-room : goal.append_numbers-requires-2-clause-room
append_numbers-requires-2-clause-room c =
    omega (
      arith,
      c.requires.room,
      grew_length _ _ _ c.in_ok-records.ensures.grew,
      grew_length _ _ _ c.in_ok-first.ensures.grew,
      rows_room IsSectionRecord 4 section_parts_room _ _ _ c.in_ok-records.ensures.gathered,
      ap length c.as_slice.ensures,
    )

pub append_numbers-requires-2-clause-begun : goal.append_numbers-requires-2-clause-begun
append_numbers-requires-2-clause-begun c =
    omega (arith, c.requires.begun, grew_length _ _ _ c.in_ok-records.ensures.grew, grew_length _ _ _ c.in_ok-first.ensures.grew)

pub returns-clause-grew : goal.returns-clause-grew
returns-clause-grew c =
    grew_to _ _ _ _ (omega (
      arith,
      rows_room IsSectionRecord 4 section_parts_room _ _ _ c.in_ok-records.ensures.gathered,
      ap length c.as_slice.ensures,
    ))
    (grew_on _ _ _ _ _ (grew_on _ _ _ _ _ c.in_ok-records.ensures.grew c.in_ok-first.ensures.grew) c.in_ok-at.ensures.grew)

pub returns-clause-stands : goal.returns-clause-stands
returns-clause-stands c =
    magic_stands _ _ c.args.sections.now _ _ _ _ _
    (gather_end IsSectionRecord 4 _ _ _ _ _ (map plain_section c.args.sections.now)
    c.in_ok-first.ensures.grew c.in_ok-records.ensures.gathered (rw (← c.as_slice.ensures) c.in_ok-first.ensures.stand))
    c.in_ok-at.ensures.grew refl c.extent.ensures c.in_ok-at.ensures.stand
