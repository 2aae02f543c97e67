-- What is lent of a cache, as plain values.
use Rattle.std.specs.Prelude.{ℕ, zero, suc, List, [], ◌∷◌, ◌++◌, length, map, take, drop, Option, Some, None}
use Rattle.std.specs.Borrow.{Bor}
use Rattle.mime_base.specs.Database.{PlainDatabase}
use Rattle.mime_base.specs.Magic.{Forest, PlainLine, PlainMatchlet, PlainSection, bare, line, line_from}
use Rattle.mime_base.specs.Database.Lent.{plain_rule}
use Rattle.mime_base.specs.declared.database.lent.LentRule.{LentRule}
use Rattle.mime_base.specs.declared.database.rule.GlobRule.{GlobRule}
use Rattle.mime_load.specs.declared.leaf.LeafRule.{LeafRule}
use Rattle.mime_load.specs.declared.line.LentLine.{LentLine}
use Rattle.mime_load.specs.declared.lists.Lists.{Lists}
use Rattle.mime_load.specs.declared.magic.LentMagic.{LentMagic}
use Rattle.mime_load.specs.declared.pair.LentPair.{LentPair}
use Rattle.mime_load.specs.declared.section.LentSection.{LentSection}

-- the two texts of a pair
abbrev pub plain_pair : LentPair → List ℕ × List ℕ
plain_pair pair = (pair.name.now, pair.target.now)

-- pairs, in their order
abbrev pub plain_pairs : List LentPair → List (List ℕ × List ℕ)
plain_pairs pairs = map plain_pair pairs

-- rules, in their order
abbrev pub plain_rules : List LentRule → List GlobRule
plain_rules rules = map plain_rule rules

-- a rule of the suffix tree
abbrev pub plain_leaf : LeafRule → GlobRule
plain_leaf rule = record { weight = rule.weight; kind = rule.kind.now; pattern = rule.pattern.now; cased = rule.cased }

-- the bytes of a mask that is there
abbrev pub lent_mask : Option (Bor (List ℕ)) → Option (List ℕ)
lent_mask None = None
lent_mask (Some mask) = Some mask.now

-- a line, without those below it
abbrev pub plain_line : LentLine → PlainLine
plain_line m = line_from m.start m.range m.word m.value.now (lent_mask m.mask)

-- of lines at most that many as a forest: a line comes right before those below it, and has their number
abbrev pub forest_within : ℕ → List LentLine → Forest
forest_within zero lines = bare
forest_within (suc room) [] = bare
forest_within (suc room) (m ∷ lines) =
    line (plain_line m) (forest_within room (take m.below lines)) (forest_within room (drop m.below lines))

-- lines as a forest
unfoldable pub lent_forest : List LentLine → Forest
lent_forest lines = forest_within (length lines) lines

-- the first of some lines with its children; where there is none, one that holds for no content
abbrev pub first_of : List LentLine → PlainMatchlet
first_of [] = record { own = line_from 0 0 1 [] None; children = bare }
first_of (m ∷ lines) = record { own = plain_line m; children = lent_forest (take m.below lines) }

-- the lines behind the first one and those below it
abbrev pub behind_first : List LentLine → List LentLine
behind_first [] = []
behind_first (m ∷ lines) = drop m.below lines

-- sections, which have so many of the lines one after the other
abbrev pub sections_over : List LentSection → List LentLine → List PlainSection
sections_over [] lines = []
sections_over (s ∷ sections) lines =
    record { priority = s.priority; kind = s.kind.now; lines = lent_forest (take s.lines lines) }
    ∷ sections_over sections (drop s.lines lines)

-- the sections of a magic list, in their order
abbrev pub plain_magic : LentMagic → List PlainSection
plain_magic magic = sections_over magic.sections.items magic.lines.items

-- the database of the lists of a cache: its rules are those of the literal list, of the tree and of the glob list
abbrev pub plain_lists : Lists → PlainDatabase
plain_lists b = record {
  rules = plain_rules b.literals.items ++ (b.leaves ++ plain_rules b.globs.items);
  aliases = plain_pairs b.aliases.items;
  parents = plain_pairs b.parents.items;
  sections = plain_magic b.magic;
  icons = plain_pairs b.icons.items;
  generic_icons = plain_pairs b.generic_icons.items;
}
