-- A cache of 240 bytes that was made by hand, and the database that it spells. Its texts are shared.
use Rattle.std.specs.Prelude.{ℕ, false, List, [], ◌∷◌, ◌++◌, None, codes}
use Rattle.mime_base.specs.Database.{PlainDatabase}
use Rattle.mime_base.specs.Magic.{bare, line, line_from}
use Rattle.mime_base.specs.declared.database.rule.GlobRule.{GlobRule}

-- the header
abbrev header_bytes : List ℕ
header_bytes =
    0 ∷ 1 ∷ 0 ∷ 2 ∷ 0 ∷ 0 ∷ 0 ∷ 40 ∷ 0 ∷ 0 ∷ 0 ∷ 52 ∷ 0 ∷ 0 ∷ 0 ∷ 72
    ∷ 0 ∷ 0 ∷ 0 ∷ 88 ∷ 0 ∷ 0 ∷ 0 ∷ 144 ∷ 0 ∷ 0 ∷ 0 ∷ 148 ∷ 0 ∷ 0 ∷ 0 ∷ 208
    ∷ 0 ∷ 0 ∷ 0 ∷ 212 ∷ 0 ∷ 0 ∷ 0 ∷ 216 ∷ []

-- alias list at 40: one entry, its texts at 228 and 220
abbrev alias_bytes : List ℕ
alias_bytes =
    0 ∷ 0 ∷ 0 ∷ 1 ∷ 0 ∷ 0 ∷ 0 ∷ 228 ∷ 0 ∷ 0 ∷ 0 ∷ 220 ∷ []

-- parent list at 52: one type at 220, its parents at 64: one, at 224
abbrev parent_bytes : List ℕ
parent_bytes =
    0 ∷ 0 ∷ 0 ∷ 1 ∷ 0 ∷ 0 ∷ 0 ∷ 220 ∷ 0 ∷ 0 ∷ 0 ∷ 64 ∷ 0 ∷ 0 ∷ 0 ∷ 1
    ∷ 0 ∷ 0 ∷ 0 ∷ 224 ∷ []

-- literal list at 72: one entry, its texts at 232 and 224, weight 50
abbrev literal_bytes : List ℕ
literal_bytes =
    0 ∷ 0 ∷ 0 ∷ 1 ∷ 0 ∷ 0 ∷ 0 ∷ 232 ∷ 0 ∷ 0 ∷ 0 ∷ 224 ∷ 0 ∷ 0 ∷ 0 ∷ 50 ∷ []

-- tree at 88: one root at 96; nodes `z`, `g` and `.`; a leaf at 132 with its type at 220, weight 50
abbrev tree_bytes : List ℕ
tree_bytes =
    0 ∷ 0 ∷ 0 ∷ 1 ∷ 0 ∷ 0 ∷ 0 ∷ 96 ∷ 0 ∷ 0 ∷ 0 ∷ 122 ∷ 0 ∷ 0 ∷ 0 ∷ 1
    ∷ 0 ∷ 0 ∷ 0 ∷ 108 ∷ 0 ∷ 0 ∷ 0 ∷ 103 ∷ 0 ∷ 0 ∷ 0 ∷ 1 ∷ 0 ∷ 0 ∷ 0 ∷ 120
    ∷ 0 ∷ 0 ∷ 0 ∷ 46 ∷ 0 ∷ 0 ∷ 0 ∷ 1 ∷ 0 ∷ 0 ∷ 0 ∷ 132 ∷ 0 ∷ 0 ∷ 0 ∷ 0
    ∷ 0 ∷ 0 ∷ 0 ∷ 220 ∷ 0 ∷ 0 ∷ 0 ∷ 50 ∷ []

-- glob list at 144: empty
abbrev glob_bytes : List ℕ
glob_bytes =
    0 ∷ 0 ∷ 0 ∷ 0 ∷ []

-- magic list at 148: one section at 160, extent 3; its line at 176, the value at 236
abbrev magic_bytes : List ℕ
magic_bytes =
    0 ∷ 0 ∷ 0 ∷ 1 ∷ 0 ∷ 0 ∷ 0 ∷ 3 ∷ 0 ∷ 0 ∷ 0 ∷ 160 ∷ 0 ∷ 0 ∷ 0 ∷ 40
    ∷ 0 ∷ 0 ∷ 0 ∷ 220 ∷ 0 ∷ 0 ∷ 0 ∷ 1 ∷ 0 ∷ 0 ∷ 0 ∷ 176 ∷ 0 ∷ 0 ∷ 0 ∷ 0
    ∷ 0 ∷ 0 ∷ 0 ∷ 1 ∷ 0 ∷ 0 ∷ 0 ∷ 1 ∷ 0 ∷ 0 ∷ 0 ∷ 2 ∷ 0 ∷ 0 ∷ 0 ∷ 236
    ∷ 0 ∷ 0 ∷ 0 ∷ 0 ∷ 0 ∷ 0 ∷ 0 ∷ 0 ∷ 0 ∷ 0 ∷ 0 ∷ 0 ∷ []

-- namespaces at 208, icons at 212, generic icons at 216: empty
abbrev empty_bytes : List ℕ
empty_bytes =
    0 ∷ 0 ∷ 0 ∷ 0 ∷ 0 ∷ 0 ∷ 0 ∷ 0 ∷ 0 ∷ 0 ∷ 0 ∷ 0 ∷ []

-- texts: `t/g` at 220, `t/m` at 224, `t/h` at 228, `mk` at 232; the value at 236
abbrev text_bytes : List ℕ
text_bytes =
    116 ∷ 47 ∷ 103 ∷ 0 ∷ 116 ∷ 47 ∷ 109 ∷ 0 ∷ 116 ∷ 47 ∷ 104 ∷ 0 ∷ 109 ∷ 107 ∷ 0 ∷ 0
    ∷ 31 ∷ 139 ∷ 0 ∷ 0 ∷ []

-- the bytes of the sample cache
abbrev pub sample : List ℕ
sample =
    header_bytes ++ alias_bytes ++ parent_bytes ++ literal_bytes ++ tree_bytes ++ glob_bytes ++ magic_bytes
    ++ empty_bytes ++ text_bytes

-- `50:t/m:mk`
abbrev pub mk_rule : GlobRule
mk_rule = record { weight = 50; kind = codes "t/m"; pattern = codes "mk"; cased = false }

-- `50:t/g:*.gz`
abbrev pub gz_rule : GlobRule
gz_rule = record { weight = 50; kind = codes "t/g"; pattern = codes "*.gz"; cased = false }

-- alias `t/h t/g`, subclass `t/g t/m`, and in `[40:t/g]` the line `>0=` with the value 1F 8B
abbrev pub sample_database : PlainDatabase
sample_database = record {
  rules = mk_rule ∷ gz_rule ∷ [];
  aliases = (codes "t/h", codes "t/g") ∷ [];
  parents = (codes "t/g", codes "t/m") ∷ [];
  sections = record {
    priority = 40;
    kind = codes "t/g";
    lines = line (line_from 0 1 1 (31 ∷ 139 ∷ []) None) bare bare;
  } ∷ [];
  icons = [];
  generic_icons = [];
}

-- a database that says nothing
abbrev pub empty_database : PlainDatabase
empty_database =
    record { rules = []; aliases = []; parents = []; sections = []; icons = []; generic_icons = [] }
