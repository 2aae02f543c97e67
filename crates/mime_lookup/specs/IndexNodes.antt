-- The nodes of an index that a lookup counts at most: steps along the name, and rules near it. This project's own.
use Rattle.std.specs.Prelude.{ℕ, Bool, if◌then◌else◌, nat_lt, List, length, filter}
use Rattle.mime_base.specs.Kept.{hits}
use Rattle.mime_base.specs.declared.database.rule.GlobRule.{GlobRule}
use Rattle.mime_lookup.specs.declared.order.Order.{Order}
use Rattle.mime_lookup.specs.declared.order.Order.TheVariants.{AllGlobs, ContentOnly, GlobsFirst, MagicFirst}
use Rattle.mime_names.specs.Near.{near_nodes, near_rules, near_texts}
use Rattle.mime_names.specs.Rules.{is_text_rule}

-- whether a rule that is a text, or a star and a text, matches a name
abbrev pub has_text : List GlobRule → List ℕ → Bool
has_text rules name = nat_lt 0 (length (filter is_text_rule (hits rules name)))

-- for the types of the kept rules of a name: where a text matches, or a star and a text, no other rule counts
abbrev pub kept_nodes : List GlobRule → List ℕ → ℕ
kept_nodes rules name = near_nodes (length name) (if has_text rules name then near_texts name rules else near_rules name rules)

-- for the types of all rules that match it
abbrev pub all_nodes : List GlobRule → List ℕ → ℕ
all_nodes rules name = near_nodes (length name) (near_rules name rules)

-- for an order, by these two; where the content alone is asked none
abbrev pub order_nodes : Order → ℕ → ℕ → ℕ
order_nodes GlobsFirst kept all = kept
order_nodes MagicFirst kept all = kept
order_nodes AllGlobs kept all = all
order_nodes ContentOnly kept all = 0

-- of these those before the content is asked
abbrev pub nodes_before : Order → ℕ → ℕ → ℕ
nodes_before GlobsFirst kept all = kept
nodes_before MagicFirst kept all = 0
nodes_before AllGlobs kept all = all
nodes_before ContentOnly kept all = 0

-- and those after it, where it was asked first
abbrev pub nodes_after : Order → ℕ → ℕ
nodes_after GlobsFirst kept = 0
nodes_after MagicFirst kept = kept
nodes_after AllGlobs kept = 0
nodes_after ContentOnly kept = kept
