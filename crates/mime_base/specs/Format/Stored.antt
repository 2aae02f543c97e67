-- What a cache stores of a rule, and in which of its three lists. The choice of the list is this project's own.
use Rattle.std.specs.Prelude.{ℕ, ◌+◌, Bool, true, false, not, ◌&&◌, ◌==◌, if◌then◌else◌, List, length, drop, reverse, filter}
use Rattle.mime_base.specs.Kept.Classes.{class_of}
use Rattle.mime_base.specs.Matching.Folding.{compared}
use Rattle.mime_base.specs.declared.kept.class.Class.{Class}
use Rattle.mime_base.specs.declared.kept.class.Class.TheVariants.{Literal, Suffix, Full}
use Rattle.mime_base.specs.declared.database.rule.GlobRule.{GlobRule}

-- the pattern, folded unless the rule is case-sensitive
abbrev pub stored_text : GlobRule → List ℕ
stored_text rule = compared rule.cased rule.pattern

-- the weight in the low 8 bits, and the flag 0x100 of a case-sensitive rule
abbrev pub weight_and_flags : GlobRule → ℕ
weight_and_flags rule = if rule.cased then rule.weight + 256 else rule.weight

-- whether it is the class Literal
abbrev pub is_literal_class : Class → Bool
is_literal_class Literal = true
is_literal_class Suffix = false
is_literal_class Full = false

-- whether it is the class Suffix
abbrev pub is_suffix_class : Class → Bool
is_suffix_class Literal = false
is_suffix_class Suffix = true
is_suffix_class Full = false

-- a pattern without a special byte
abbrev pub is_in_literals : GlobRule → Bool
is_in_literals rule = is_literal_class (class_of rule.pattern)

-- a first `*` with a plain ending after it: `*` alone has none
abbrev pub is_in_tree : GlobRule → Bool
is_in_tree rule = is_suffix_class (class_of rule.pattern) && not (length rule.pattern == 1)

-- any other
abbrev pub is_in_globs : GlobRule → Bool
is_in_globs rule = not (is_in_literals rule) && not (is_in_tree rule)

-- the rules that stand in the literal list, in merged order
abbrev pub literal_rules : List GlobRule → List GlobRule
literal_rules rules = filter is_in_literals rules

-- the rules that stand in the suffix tree, in merged order
abbrev pub tree_rules : List GlobRule → List GlobRule
tree_rules rules = filter is_in_tree rules

-- the rules that stand in the glob list, in merged order
abbrev pub glob_rules : List GlobRule → List GlobRule
glob_rules rules = filter is_in_globs rules

-- the stored text after its `*`, from the last byte to the first
abbrev pub reversed_ending : GlobRule → List ℕ
reversed_ending rule = reverse (drop 1 (stored_text rule))
