-- Lines of indent 0 of magic, each with what its section gives.
use Rattle.std.specs.Prelude.{ℕ, List, [], ◌∷◌, map, take, drop}
use Rattle.std.specs.List.{flat_map}
use Rattle.std.specs.Borrow.{Bor}
use Rattle.mime_base.specs.Magic.{Forest, PlainMatchlet, PlainSection, bare, line, plain_matchlet}
use Rattle.mime_base.specs.declared.magic.matchlet.Matchlet.{Matchlet}
use Rattle.mime_load.specs.Lent.{first_of}
use Rattle.mime_load.specs.declared.line.LentLine.{LentLine}
use Rattle.mime_lookup.specs.declared.indexed.magic_line.LentTop.{LentTop}
use Rattle.mime_lookup.specs.declared.indexed.top_line.TopLine.{TopLine}

-- a line of indent 0 with its children, and the type and the priority of its section
pub record PlainTop : Type 0 where
  pub kind : List ℕ
  pub priority : ℕ
  pub line : PlainMatchlet

-- such a line of the code, by which line its own is
abbrev pub plain_top : {L : Type 0} → (L → PlainMatchlet) → TopLine L → PlainTop
plain_top plain top = record { kind = top.kind.now; priority = top.priority; line = plain top.line }

-- lines of the code, in their order
abbrev pub plain_tops : {L : Type 0} → (L → PlainMatchlet) → List (TopLine L) → List PlainTop
plain_tops plain tops = map (plain_top plain) tops

-- a line of a database that is lent
abbrev pub lent_matchlet : Bor Matchlet → PlainMatchlet
lent_matchlet m = plain_matchlet m.now

-- a line of indent 0 of a cache: the first of the lines from its place on up to the end of its section
abbrev pub lent_top : List LentLine → LentTop → PlainMatchlet
lent_top lines top = first_of (take top.size (drop top.place lines))

-- the first lines of a forest, each with its children
abbrev pub lines_of : Forest → List PlainMatchlet
lines_of bare = []
lines_of (line own children rest) = record { own = own; children = children } ∷ lines_of rest

-- the lines of indent 0 of a section
abbrev pub tops_of : PlainSection → List PlainTop
tops_of section = map (λ m. record { kind = section.kind; priority = section.priority; line = m }) (lines_of section.lines)

-- the lines of indent 0 of sections, in their order
abbrev pub top_lines : List PlainSection → List PlainTop
top_lines sections = flat_map tops_of sections
