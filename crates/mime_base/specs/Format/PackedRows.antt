-- Worked rows of the bytes that records and values need, which compute: the sizes are those of the format's records.
use Rattle.std.specs.Prelude.{◌≡◌, ℕ, false, refl, codes, List, [], ◌∷◌, None}
use Rattle.mime_base.specs.Database.{PlainDatabase}
use Rattle.mime_base.specs.Format.Packed.{record_bytes, value_length}
use Rattle.mime_base.specs.Format.Sample.{gz_rule, mk_rule, sample_database}
use Rattle.mime_base.specs.Kept.Classes.{class_of}
use Rattle.mime_base.specs.Magic.{Forest, bare, line, line_from}
use Rattle.mime_base.specs.declared.database.rule.GlobRule.{GlobRule}

-- a database of these rules
abbrev of_rules : List GlobRule → PlainDatabase
of_rules rules = record { rules = rules; aliases = []; parents = []; sections = []; icons = []; generic_icons = [] }

-- a database of one section with these lines
abbrev of_lines : Forest → PlainDatabase
of_lines lines = record {
  rules = [];
  aliases = [];
  parents = [];
  sections = record { priority = 50; kind = codes "t/g"; lines = lines } ∷ [];
  icons = [];
  generic_icons = [];
}

-- a database of these pairs: aliases, parents, icons and generic icons
abbrev of_pairs : List (List ℕ × List ℕ) → List (List ℕ × List ℕ) → List (List ℕ × List ℕ) → List (List ℕ × List ℕ) → PlainDatabase
of_pairs aliases parents icons generic_icons = record {
  rules = [];
  aliases = aliases;
  parents = parents;
  sections = [];
  icons = icons;
  generic_icons = generic_icons;
}

-- one pair
abbrev a_pair : List (List ℕ × List ℕ)
a_pair = (codes "t/a", codes "t/b") ∷ []

-- the lines of `>0=` with two bytes, below it `>4=` with three, and after both `>8=` with one
abbrev three_lines : Forest
three_lines =
    line (line_from 0 1 1 (1 ∷ 2 ∷ []) None) (line (line_from 4 1 1 (3 ∷ 4 ∷ 5 ∷ []) None) bare bare)
    (line (line_from 8 1 1 (6 ∷ []) None) bare bare)

-- a literal entry has three numbers of four bytes
pub packed-literal : record_bytes (of_rules (mk_rule ∷ [])) ≡ 12
unfolding class_of
packed-literal = refl

-- a glob entry too
pub packed-glob :
    record_bytes (of_rules (record { weight = 50; kind = codes "t/c"; pattern = codes "*.[ch]"; cased = false } ∷ [])) ≡ 12
unfolding class_of
packed-glob = refl

-- the tree has three nodes and a leaf for `*.gz`, each of three numbers
pub packed-suffix : record_bytes (of_rules (gz_rule ∷ [])) ≡ 48
unfolding class_of
packed-suffix = refl

-- a section has four numbers
pub packed-section : record_bytes (of_lines bare) ≡ 16
packed-section = refl

-- a line has eight, wherever it stands
pub packed-lines : record_bytes (of_lines three_lines) ≡ 112
packed-lines = refl

-- the values have all their bytes
pub packed-values : value_length (record { priority = 50; kind = codes "t/g"; lines = three_lines } ∷ []) ≡ 6
packed-values = refl

-- a parent is one number of its list; an alias is found by halving, and needs none
pub packed-parent : record_bytes (of_pairs a_pair a_pair [] []) ≡ 4
packed-parent = refl

-- an icon has two numbers
pub packed-icon : record_bytes (of_pairs [] [] a_pair []) ≡ 8
packed-icon = refl

-- a generic icon too
pub packed-generic_icon : record_bytes (of_pairs [] [] [] a_pair) ≡ 8
packed-generic_icon = refl

-- the sample has a rule of each of two lists, a parent, a section and a line: 12 and 48, 4, 16 and 32
pub packed-sample : record_bytes sample_database ≡ 112
unfolding class_of
packed-sample = refl
