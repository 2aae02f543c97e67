-- How many bytes a database takes where no text is shared. This project's own.
use Rattle.std.specs.Prelude.{ℕ, ◌+◌, ◌*◌, ◌/◌, List, length, sum_by, Option, Some, None}
use Rattle.mime_base.specs.Database.{PlainDatabase}
use Rattle.mime_base.specs.Format.Parents.{subclasses}
use Rattle.mime_base.specs.Format.Stored.{glob_rules, literal_rules, tree_rules, stored_text}
use Rattle.mime_base.specs.Format.SuffixTree.{tree_size}
use Rattle.mime_base.specs.Magic.{Forest, PlainSection, bare, line}
use Rattle.mime_base.specs.declared.database.rule.GlobRule.{GlobRule}

-- rounded up to a multiple of 4
abbrev pub padded : ℕ → ℕ
padded size = (size + 3) / 4 * 4

-- a text with its zero
abbrev pub text_room : List ℕ → ℕ
text_room text = padded (length text + 1)

-- two texts and their entry: an alias with its type, a type with its icon
abbrev pub pairs_room : List (List ℕ × List ℕ) → ℕ
pairs_room pairs = sum_by (λ pair. 8 + (text_room pair.0 + text_room pair.1)) pairs

-- an entry, a count and the text for each type with parents; an offset and the text for each parent
abbrev pub parents_room : List (List ℕ × List ℕ) → ℕ
parents_room pairs =
    sum_by (λ kind. 12 + text_room kind) (subclasses pairs) + sum_by (λ pair. 4 + text_room pair.1) pairs

-- an entry and two texts for each rule of the literal list or of the glob list
abbrev pub rules_room : List GlobRule → ℕ
rules_room rules = sum_by (λ rule. 12 + (text_room (stored_text rule) + text_room rule.kind)) rules

-- a record for each node, leaves included, and the text of a type for each leaf
abbrev pub tree_room : List GlobRule → ℕ
tree_room rules = 12 * tree_size rules + sum_by (λ rule. text_room rule.kind) (tree_rules rules)

-- the bytes that a mask takes
abbrev pub mask_room : Option (List ℕ) → ℕ
mask_room None = 0
mask_room (Some mask) = padded (length mask)

-- a record for each line, its value and its mask
abbrev pub lines_room : Forest → ℕ
lines_room bare = 0
lines_room (line own children rest) =
    32 + (padded (length own.value) + mask_room own.mask + lines_room children) + lines_room rest

-- a record and the text of its type for each section, and its lines
abbrev pub sections_room : List PlainSection → ℕ
sections_room sections = sum_by (λ section. 16 + (text_room section.kind + lines_room section.lines)) sections

-- header, counts and heads take 88 bytes
abbrev pub room : PlainDatabase → ℕ
room b =
    88 + pairs_room b.aliases + parents_room b.parents + rules_room (literal_rules b.rules) + tree_room b.rules
    + rules_room (glob_rules b.rules) + sections_room b.sections + pairs_room b.icons + pairs_room b.generic_icons
