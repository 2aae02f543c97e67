-- The bytes that a lookup over an index compares at most, by what it compares: rules with the name, lines with the content, types with one
-- another. This project's own.
pub mod Rows
use Rattle.std.specs.Prelude.{ℕ, ◌+◌, ◌*◌, Bool, if◌then◌else◌, List, length}
use Rattle.mime_base.specs.Database.{PlainDatabase}
use Rattle.mime_base.specs.Kept.{hits}
use Rattle.mime_base.specs.declared.database.rule.GlobRule.{GlobRule}
use Rattle.mime_lookup.specs.IndexNodes.{has_text}
use Rattle.mime_lookup.specs.LineBytes.{index_bytes}
use Rattle.mime_lookup.specs.TopLines.{top_lines}
use Rattle.mime_lookup.specs.declared.order.Order.{Order}
use Rattle.mime_lookup.specs.declared.order.Order.TheVariants.{AllGlobs, ContentOnly, GlobsFirst, MagicFirst}
use Rattle.mime_names.specs.Near.{is_mostly_general, longest, near_bytes, near_rules, near_texts, rule_bytes, text_bytes}

-- where each rule is tried
abbrev pub tried_bytes : List GlobRule → List ℕ → ℕ
tried_bytes rules name = length rules * rule_bytes (length name) (longest rules)

-- for all rules that match a name: by those near it
abbrev pub hits_bytes : List GlobRule → List ℕ → ℕ
hits_bytes rules name = near_bytes (length name) (longest rules) (near_rules name rules)

-- for their types: where most rules are general patterns each is tried
abbrev pub all_bytes : List GlobRule → List ℕ → ℕ
all_bytes rules name = if is_mostly_general rules then tried_bytes rules name else hits_bytes rules name

-- for the types of the kept rules: where a text matches, or a star and a text, no other rule is compared
abbrev pub kept_bytes : List GlobRule → List ℕ → ℕ
kept_bytes rules name =
    if is_mostly_general rules then tried_bytes rules name
    else if has_text rules name then text_bytes (length name) (near_texts name rules) else hits_bytes rules name

-- for what a content of that length is sniffed as
abbrev pub content_bytes : PlainDatabase → ℕ → ℕ
content_bytes b size = index_bytes size (top_lines b.sections)

-- for a search among that many types, with that many subclass pairs, for a base of that length: each type that is met is asked once, and
-- compared with the base and with words of 52 bytes
abbrev pub search_bytes : ℕ → ℕ → ℕ → ℕ
search_bytes kinds pairs base = (kinds + pairs) * (base + 52)

-- for a choice among the types of a name, by a base of at most 255 bytes: no more than there are rules that match
abbrev pub choice_bytes : PlainDatabase → List ℕ → ℕ
choice_bytes b name = search_bytes (length (hits b.rules name)) (length b.parents) 255

-- for an order, by these: nothing for a content, nor for a choice, where the globs suffice
abbrev pub order_bytes : Order → Bool → ℕ → ℕ → ℕ → ℕ → ℕ
order_bytes GlobsFirst suffice kept all content choice = kept + (if suffice then 0 else content + choice)
order_bytes MagicFirst suffice kept all content choice = content + (kept + choice)
order_bytes AllGlobs suffice kept all content choice = all + (if suffice then 0 else content + choice)
order_bytes ContentOnly suffice kept all content choice = content
