-- The rules near a name: those that an index asks for it, but for at most one at each node on its way.
pub mod Rows
use Rattle.std.specs.Prelude.{ℕ, ◌+◌, ◌*◌, ◌-◌, ◌/◌, max, nat_lt, Bool, not, ◌&&◌, ◌||◌, ◌==◌, if◌then◌else◌, List, [], ◌∷◌, length, drop, filter}
use Rattle.std.specs.Str.{bytes_eq}
use Rattle.mime_base.specs.Kept.Classes.{class_of}
use Rattle.mime_base.specs.Matching.Elements.{is_special}
use Rattle.mime_base.specs.Matching.Folding.{folded}
use Rattle.mime_base.specs.declared.database.rule.GlobRule.{GlobRule}
use Rattle.mime_base.specs.declared.kept.class.Class.{Class}
use Rattle.mime_base.specs.declared.kept.class.Class.TheVariants.{Literal, Suffix, Full}
use Rattle.mime_names.specs.Rules.{is_text_rule}
use Rattle.mime_names.specs.Tree.{spelled}

-- whether a name ends with these symbols, where 0 is the one that begins it
abbrev pub ends_with : List ℕ → List ℕ → Bool
ends_with symbols name = bytes_eq symbols (drop (length name + 1 - length symbols) (0 ∷ spelled name))

-- the first byte of a general pattern, folded, where it stands for itself; else 256
abbrev pub first_byte : List ℕ → ℕ
first_byte [] = 256
first_byte (b ∷ rest) = if is_special b then 256 else folded b

-- whether a name begins so: each does with 256
abbrev pub begins_with : ℕ → List ℕ → Bool
begins_with first [] = first == 256
begins_with first (b ∷ name) = first == 256 || first == folded b

-- whether a pattern of a class is near a name: it ends with the symbols of the text, or may begin as the general pattern does
abbrev pub is_near : Class → List ℕ → List ℕ → Bool
is_near Literal pattern name = ends_with (0 ∷ spelled pattern) name
is_near Suffix pattern name = ends_with (spelled (drop 1 pattern)) name
is_near Full pattern name = begins_with (first_byte pattern) name

-- whether a rule is near a name
abbrev pub near_rule : List ℕ → GlobRule → Bool
near_rule name rule = is_near (class_of rule.pattern) rule.pattern name

-- how many rules are near a name
abbrev pub near_rules : List ℕ → List GlobRule → ℕ
near_rules name rules = length (filter (near_rule name) rules)

-- how many of them are a text, or a star and a text
abbrev pub near_texts : List ℕ → List GlobRule → ℕ
near_texts name rules = length (filter (λ rule. is_text_rule rule && near_rule name rule) rules)

-- how many are neither
abbrev pub near_others : List ℕ → List GlobRule → ℕ
near_others name rules = length (filter (λ rule. not (is_text_rule rule) && near_rule name rule) rules)

-- how many rules are no text and no star before a text
abbrev pub general_rules : List GlobRule → ℕ
general_rules rules = length (filter (λ rule. not (is_text_rule rule)) rules)

-- whether these are most
abbrev pub is_mostly_general : List GlobRule → Bool
is_mostly_general rules = nat_lt (length rules / 2) (general_rules rules)

-- the nodes that are counted at most, for the length of a name and the number of rules near it
abbrev pub near_nodes : ℕ → ℕ → ℕ
near_nodes name rules = 3 * name + 6 + rules

-- the length of the longest pattern of some rules
unfoldable pub longest : List GlobRule → ℕ
longest [] = 0
longest (rule ∷ rules) = max (length rule.pattern) (longest rules)

-- the bytes that a rule compares at most, for the lengths of a name and of its pattern: a pattern is tried from each place of a name, and
-- what is tried is compared up to the pattern's end and one
abbrev pub rule_bytes : ℕ → ℕ → ℕ
rule_bytes name pattern = (pattern + 1) * (name + 1)

-- the bytes that are compared at most, for the length of a name, the longest pattern and the number of rules near it: those of these, and
-- at each node on the name's way those of one text more, which has no more than the name
abbrev pub near_bytes : ℕ → ℕ → ℕ → ℕ
near_bytes name pattern rules = rules * rule_bytes name pattern + (name + 1) * name

-- where only texts are compared, of which each has no more bytes than the name
abbrev pub text_bytes : ℕ → ℕ → ℕ
text_bytes name texts = (texts + (name + 1)) * name
