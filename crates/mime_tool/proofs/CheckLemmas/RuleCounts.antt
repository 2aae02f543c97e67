-- Each rule stands in one of the three lists of a cache.
use Rattle.std.proofs.Common.{◌≡◌, ◌≤◌, ◌+◌, ℕ, Bool, true, false, not, ◌&&◌, List, [], ◌∷◌, ◌++◌, arith, if◌then◌else◌, length, map, vec_len}
use Rattle.std.proofs.Common.{Vec, length-append}
use Rattle.std.specs.declared.alloc.Global.{Global}
use Rattle.std.proofs.lemmas.List.{length-map}
use Rattle.mime_base.specs.Format.Stored.{glob_rules, is_in_literals, is_in_tree, literal_rules, tree_rules}
use Rattle.mime_base.specs.declared.database.rule.GlobRule.{GlobRule}
use Rattle.mime_base.specs.Database.Lent.{plain_rule}
use Rattle.mime_load.specs.Lent.{plain_lists, plain_rules}
use Rattle.mime_load.specs.declared.lists.Lists.{Lists}

-- one rule more, which is in one of three lists
one_more : (literal leaf : Bool) (rule : GlobRule) (literals leaves globs : List GlobRule) (n : ℕ)
    → n ≤ length literals + length leaves + length globs
    → n + 1 ≤ length (if literal then rule ∷ literals else literals) + length (if leaf then rule ∷ leaves else leaves)
    + length (if not literal && not leaf then rule ∷ globs else globs)
one_more true true rule literals leaves globs n h = omega (arith, h)
one_more true false rule literals leaves globs n h = omega (arith, h)
one_more false true rule literals leaves globs n h = omega (arith, h)
one_more false false rule literals leaves globs n h = omega (arith, h)

-- the lists have all rules
pub rules_within : (rules : List GlobRule)
    → length rules ≤ length (literal_rules rules) + length (tree_rules rules) + length (glob_rules rules)
rules_within [] = omega arith
rules_within (rule ∷ rules) = omega (
  arith,
  one_more (is_in_literals rule) (is_in_tree rule) rule (literal_rules rules) (tree_rules rules) (glob_rules rules) (length rules)
      (rules_within rules),
)

-- the rules of lists that were read back are those of the three lists
pub rules_length : (b : Lists)
    → length (plain_lists b).rules ≡ length b.literals.items + length b.leaves + length b.globs.items
rules_length b = omega (
  arith,
  length-append (plain_rules b.literals.items) (b.leaves ++ plain_rules b.globs.items),
  length-append b.leaves (plain_rules b.globs.items),
  length-map b.literals.items plain_rule,
  length-map b.globs.items plain_rule,
)

-- a list has as many members as its plain value
pub length-plain : {X Y : Type 0} (v : Vec X Global) (plain : X → Y) → vec_len v ≡ length (map plain v.items)
length-plain v plain = omega (arith, v.ok.0, length-map v.items plain)
