-- What is left of the room after a part was read, by what stands there.
use Rattle.std.proofs.Common.{◌≡◌, ℕ, ◌+◌, ◌*◌, List, length, arith}
use Rattle.std.proofs.lemmas.List.{length-map}
use Rattle.mime_base.specs.Database.Lent.{plain_rule}
use Rattle.mime_base.specs.Format.SuffixTree.{tree_size}
use Rattle.mime_base.specs.declared.database.lent.LentRule.{LentRule}
use Rattle.mime_base.specs.declared.database.rule.GlobRule.{GlobRule}
use Rattle.mime_load.specs.Lent.{plain_rules}
use Rattle.mime_load.specs.Parts.{IsLiteralList, IsTreeList}
use Rattle.mime_load.proofs.RuleEntries.{same_literals_count}
use Rattle.mime_load.proofs.SiblingCounts.{same_tree_size}

module _ (c : List ℕ) (at old new : ℕ) where
  -- after literals
  pub literals_left : (items : List LentRule) (rules : List GlobRule) → IsLiteralList c at (plain_rules items) → IsLiteralList c at rules
      → new + 12 * length items ≡ old → new + 12 * length rules ≡ old
  literals_left items rules read stand taken =
      omega (arith, taken, length-map items plain_rule, same_literals_count c at (plain_rules items) rules read stand)

  -- after a tree
  pub leaves_left : (items rules : List GlobRule) → IsTreeList c at items → IsTreeList c at rules
      → new + 12 * tree_size items ≡ old → new + 12 * tree_size rules ≡ old
  leaves_left items rules read stand taken =
      omega (arith, taken, same_tree_size c at items rules read.stand stand.stand)
