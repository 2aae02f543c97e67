-- What a budget must have for a lookup over a cache that spells a database.
use Rattle.std.specs.Prelude.{ℕ, ◌+◌, ◌*◌, ◌≤◌, length}
use Rattle.mime_base.specs.Database.{PlainDatabase}
use Rattle.mime_base.specs.Format.Packed.{matchlet_count, value_length}
use Rattle.mime_base.specs.Format.Stored.{glob_rules, literal_rules}
use Rattle.mime_base.specs.Format.SuffixTree.{tree_size}
use Rattle.mime_view.specs.declared.budget.Budget.{Budget}

-- the records that a search for the types of a name takes at most
abbrev pub rule_records : PlainDatabase → ℕ
rule_records b = 2 * length (literal_rules b.rules) + 2 * tree_size b.rules + length (glob_rules b.rules)

-- the records that are taken to sniff a content, at most
abbrev pub magic_records : PlainDatabase → ℕ
magic_records b = length b.sections + matchlet_count b.sections

-- the records that all steps take, and all value bytes
pub record Affords (b : PlainDatabase) (budget : Budget) : Type 0 where
  pub records : rule_records b + magic_records b + length b.parents ≤ budget.records
  pub value_bytes : value_length b.sections ≤ budget.value_bytes
