-- What the writer's own values stand for.
use Rattle.std.specs.Prelude.{ℕ, ◌+◌, List}
use Rattle.mime_base.specs.Format.Room.{text_room}
use Rattle.mime_base.specs.Format.Stored.{stored_text}
use Rattle.mime_base.specs.declared.database.rule.GlobRule.{GlobRule}
use Rattle.mime_store.specs.declared.text_pair.TextPair.{TextPair}
use Rattle.mime_store.specs.declared.stored_rule.StoredRule.{StoredRule}

-- the two texts of a pair
abbrev pub pair_texts : TextPair → List ℕ × List ℕ
pair_texts pair = (pair.first.now, pair.second.now)

-- what the texts of a pair take
abbrev pub pair_texts_room : List ℕ × List ℕ → ℕ
pair_texts_room pair = text_room pair.0 + text_room pair.1

-- the rule whose text is stored
abbrev pub rule_of : StoredRule → GlobRule
rule_of stored = stored.rule.now

-- what the texts of a rule take
abbrev pub rule_texts_room : GlobRule → ℕ
rule_texts_room rule = text_room (stored_text rule) + text_room rule.kind
