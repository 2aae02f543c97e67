-- Lines of magic one by one, as they are written.
use Rattle.std.specs.Prelude.{◌≡◌, ℕ, ◌+◌, max, List, length}
use Rattle.mime_base.specs.Format.Magic.{LinesAt, MaskAt, line_numbers, width}
use Rattle.mime_base.specs.Format.Records.{Standing}
use Rattle.mime_base.specs.Format.Room.{lines_room, mask_room, padded, text_room}
use Rattle.mime_base.specs.Magic.Extent.{forest_extent, line_extent}
use Rattle.mime_base.specs.Magic.{PlainMatchlet, PlainSection}

-- the numbers of a line's record, and what they say of its parts
abbrev pub IsLineRecord : Standing → PlainMatchlet → List ℕ → Type 0
IsLineRecord S m numbers =
    (value mask first : ℕ) × (numbers ≡ line_numbers m.own value mask (width m.children) first)
    × S value m.own.value × MaskAt S mask m.own.mask × LinesAt S first m.children

-- what a line takes beside its record
abbrev pub matchlet_parts_room : PlainMatchlet → ℕ
matchlet_parts_room m = padded (length m.own.value) + mask_room m.own.mask + lines_room m.children

-- how far a line and its children look at a content
abbrev pub matchlet_extent : PlainMatchlet → ℕ
matchlet_extent m = max (line_extent m.own) (forest_extent m.children)

-- what a section takes beside its record
abbrev pub section_parts_room : PlainSection → ℕ
section_parts_room section = text_room section.kind + lines_room section.lines
