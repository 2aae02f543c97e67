-- The lists of rules and the suffix tree take no more than the rules one by one.
use Rattle.std.proofs.Common.{◌≡◌, ℕ, ◌+◌, ◌*◌, ◌≤◌, Bool, true, false, not, ◌&&◌, cond, eqb, List, [], ◌∷◌, length, map, sum_by}
use Rattle.std.proofs.Common.{ap, arith, refl}
use Rattle.std.proofs.lemmas.List.{length-map}
use Rattle.std.proofs.lemmas.List.Sums.{sum_by-cons}
use Rattle.mime_base.specs.Format.Room.{padded, rules_room, text_room, tree_room}
use Rattle.mime_base.specs.Format.Stored.{glob_rules, is_in_globs, is_in_literals, is_in_tree, is_literal_class, is_suffix_class}
use Rattle.mime_base.specs.Format.Stored.{literal_rules, reversed_ending, stored_text, tree_rules}
use Rattle.mime_base.specs.Kept.Classes.{class_of}
use Rattle.mime_base.specs.Matching.Folding.{compared_byte}
use Rattle.mime_base.specs.declared.database.rule.GlobRule.{GlobRule}
use Rattle.mime_base.specs.declared.kept.class.Class.{Class}
use Rattle.mime_base.specs.declared.kept.class.Class.TheVariants.{Full, Literal, Suffix}
use Rattle.mime_store.proofs.BoundLemmas.Fewer.{filter-sum, front_count-few}
use Rattle.mime_store.proofs.RulesLemmas.Texts.{path_long}

-- what a rule takes in whichever list it stands: its pattern, its type, an entry, and a node for each byte of its pattern
abbrev pub rule_bound : GlobRule → ℕ
rule_bound rule = 12 + 12 * length rule.pattern + (text_room rule.pattern + text_room rule.kind)

-- what a rule takes in the literal list and in the glob list
abbrev listed : GlobRule → ℕ
listed rule = 12 + (text_room (stored_text rule) + text_room rule.kind)

-- what a rule takes in the tree where it shares no node
abbrev in_tree : GlobRule → ℕ
in_tree rule = 12 * (1 + length (reversed_ending rule)) + text_room rule.kind

-- a rule that is listed takes no more than its bound
listed-bounded : (rule : GlobRule) → listed rule ≤ rule_bound rule
listed-bounded rule =
    let same : text_room (stored_text rule) ≡ text_room rule.pattern =
    ap (λ (n : ℕ). padded (n + 1)) (length-map rule.pattern (compared_byte rule.cased)) in
    omega (arith, same)

-- nor does one in the tree
in_tree-bounded : (rule : GlobRule) → in_tree rule ≤ rule_bound rule
in_tree-bounded rule = omega (arith, path_long rule)

-- no class is both
one_class : (c : Class) (more : Bool) → (is_literal_class c && (is_suffix_class c && more)) ≡ false
one_class Literal more = refl
one_class Suffix more = refl
one_class Full more = refl

-- of three lists one takes it
one_list : (literal tree : Bool) (list node bound : ℕ) → (literal && tree) ≡ false → list ≤ bound → node ≤ bound
    → cond literal list 0 + cond tree node 0 + cond (not literal && not tree) list 0 ≤ bound
one_list true true list node bound one a b = absurd (cc)
one_list true false list node bound one a b = omega (arith, a)
one_list false true list node bound one a b = omega (arith, b)
one_list false false list node bound one a b = omega (arith, a)

-- rules one by one, in their lists
lists-bounded : (rules : List GlobRule)
    → sum_by listed (literal_rules rules) + sum_by in_tree (tree_rules rules) + sum_by listed (glob_rules rules) ≤ sum_by rule_bound rules
lists-bounded [] = omega arith
lists-bounded (rule ∷ rules) =
    omega (
      arith,
      lists-bounded rules,
      filter-sum listed is_in_literals rule rules,
      filter-sum in_tree is_in_tree rule rules,
      filter-sum listed is_in_globs rule rules,
      one_list (is_in_literals rule) (is_in_tree rule) (listed rule) (in_tree rule) (rule_bound rule)
          (one_class (class_of rule.pattern) (not (eqb (length rule.pattern) 1))) (listed-bounded rule) (in_tree-bounded rule),
      sum_by-cons rule_bound rule rules,
    )

-- what a type takes
abbrev of_kind : GlobRule → ℕ
of_kind rule = text_room rule.kind

-- a tree in which no node is shared, by its rules one by one
tree-parts : (rules : List GlobRule)
    → sum_by in_tree rules ≡ 12 * (length rules + sum_by length (map reversed_ending rules)) + sum_by of_kind rules
tree-parts [] = refl
tree-parts (rule ∷ rules) =
    omega (
      arith,
      tree-parts rules,
      sum_by-cons in_tree rule rules,
      sum_by-cons of_kind rule rules,
      sum_by-cons length (reversed_ending rule) (map reversed_ending rules),
    )

-- what all rules take in their lists
pub rules-bounded : (rules : List GlobRule)
    → rules_room (literal_rules rules) + tree_room rules + rules_room (glob_rules rules) ≤ sum_by rule_bound rules
rules-bounded rules =
    omega (arith, lists-bounded rules, tree-parts (tree_rules rules), front_count-few (map reversed_ending (tree_rules rules)))
