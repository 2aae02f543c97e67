-- Rules of the suffix tree, whose patterns lie in one text.
use Rattle.std.specs.Prelude.{ℕ, ◌+◌, ◌≤◌, List, length, take, drop}
use Rattle.mime_base.specs.declared.database.rule.GlobRule.{GlobRule}
use Rattle.mime_load.specs.declared.leaf.LeafEntry.{LeafEntry}

-- a rule's pattern, where the patterns of all lie
abbrev pub entry_pattern : List ℕ → LeafEntry → List ℕ
entry_pattern patterns entry = take entry.length (drop entry.start patterns)

-- a rule whose pattern lies among those of all
abbrev pub plain_entry : List ℕ → LeafEntry → GlobRule
plain_entry patterns entry =
    record { weight = entry.weight; kind = entry.kind.now; pattern = entry_pattern patterns entry; cased = entry.cased }

-- a rule's pattern lies whole among those of all
abbrev pub LiesIn : List ℕ → LeafEntry → Type 0
LiesIn patterns entry = entry.start + entry.length ≤ length patterns
