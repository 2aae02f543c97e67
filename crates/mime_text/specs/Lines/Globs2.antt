-- What the lines of globs2 spell.
use Rattle.std.specs.Prelude.{ℕ, ◌&&◌, nat_lt, nat_le, Bool, false, if◌then◌else◌, Option, Some, None, List, [], ◌∷◌, length, codes}
use Rattle.std.specs.Prelude.{bytes_eq}
use Rattle.std.specs.List.{filter_map, list_any, list_all}
use Rattle.std.specs.Char.{is_ascii_digit}
use Rattle.std.specs.Str.Parse.{digits_value}
use Rattle.mime_base.specs.Names.{is_type_name, is_pattern}
use Rattle.mime_base.specs.declared.database.rule.GlobRule.{GlobRule}
use Rattle.mime_text.specs.declared.lines.globs2.GlobEntry.{GlobEntry}
use Rattle.mime_text.specs.declared.lines.globs2.GlobEntry.TheVariants.{Rule, Marker}
use Rattle.mime_text.specs.Lines.{line_fields}
use Rattle.mime_text.specs.Lines.File.{entries_by, is_malformed, line_by}

-- a number of decimal digits, at least one, with a value from 0 to 255
unfoldable pub weight_of : List ℕ → Option ℕ
weight_of field =
    if nat_lt 0 (length field) && list_all is_ascii_digit field && nat_le (digits_value 10 field) 255
    then Some (digits_value 10 field) else None

-- whether one of the flags, with commas (44) between them, is cs
unfoldable pub has_cs : List ℕ → Bool
has_cs flags = list_any (λ flag. bytes_eq flag (codes "cs")) (line_fields 44 flags)

-- whether the first field after the pattern has that flag; further fields say nothing
abbrev pub is_cased : List (List ℕ) → Bool
is_cased [] = false
is_cased (flags ∷ _) = has_cs flags

-- what a line with the weight and the type of a rule spells
abbrev pub with_pattern : ℕ → List ℕ → List ℕ → Bool → Option GlobEntry
with_pattern weight kind pattern cased =
    if bytes_eq pattern (codes "__NOGLOBS__") then Some (Marker kind)
    else (if is_pattern pattern
    then Some (Rule (record { weight = weight; kind = kind; pattern = pattern; cased = cased }))
    else None)

-- what a weight, a type, a pattern and a flag spell
unfoldable pub entry : Option ℕ → List ℕ → List ℕ → Bool → Option GlobEntry
entry None kind pattern cased = None
entry (Some weight) kind pattern cased =
    if is_type_name kind then with_pattern weight kind pattern cased else None

-- what the fields of a line spell
abbrev pub entry_of_fields : List (List ℕ) → Option GlobEntry
entry_of_fields (weight ∷ kind ∷ pattern ∷ more) = entry (weight_of weight) kind pattern (is_cased more)
entry_of_fields _ = None

-- what a line spells: weight:type:pattern, or weight:type:pattern:flags (58 is the colon)
unfoldable pub entry_of : List ℕ → Option GlobEntry
entry_of line = entry_of_fields (line_fields 58 line)

-- the rule that a line spells, if it spells one
abbrev pub as_rule : GlobEntry → Option GlobRule
as_rule (Rule rule) = Some rule
as_rule (Marker kind) = None

-- the type of the marker that a line spells, if it spells one
abbrev pub as_marker : GlobEntry → Option (List ℕ)
as_marker (Rule rule) = None
as_marker (Marker kind) = Some kind

-- whether a line is malformed
abbrev pub is_malformed_rule : List ℕ → Bool
is_malformed_rule line = is_malformed (line_by entry_of line)

-- the rules of a text, in the order of their lines
unfoldable pub rules_of : List ℕ → List GlobRule
rules_of text = filter_map as_rule (entries_by entry_of text)

-- the types of its markers, in the order of their lines
unfoldable pub markers_of : List ℕ → List (List ℕ)
markers_of text = filter_map as_marker (entries_by entry_of text)
