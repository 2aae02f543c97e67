-- What is read back of the lists of a cache.
use Rattle.std.specs.Prelude.{◌≡◌, ℕ, true, All, List}
use Rattle.mime_base.specs.Cache.Bytes.{Stands}
use Rattle.mime_base.specs.Database.Limits.{KeepsLimits}
use Rattle.mime_base.specs.Format.Records.{CardsAt, Standing}
use Rattle.mime_base.specs.Format.Rules.{GlobsAt, IsRule, LiteralsAt}
use Rattle.mime_base.specs.Format.Stored.{is_in_globs, is_in_literals, is_in_tree, stored_text}
use Rattle.mime_base.specs.Format.SuffixTree.{SuffixTreeAt}
use Rattle.mime_base.specs.declared.database.rule.GlobRule.{GlobRule}

-- the record of x stands at `at`
pub record RecordAt {X : Type 0} (S : Standing) (Is : X → List ℕ → Type 0) (at : ℕ) (x : X) : Type 0 where
  pub numbers : List ℕ
  pub cards : CardsAt S at numbers
  pub is : Is x numbers

-- the record of a rule stands at `at`, its pattern is as it is stored, and it is one that the text files can spell
pub record IsStoredRule (c : List ℕ) (at : ℕ) (rule : GlobRule) : Type 0 where
  pub stand : RecordAt (Stands c) (IsRule (Stands c)) at rule
  pub stored : stored_text rule ≡ rule.pattern
  pub limits : KeepsLimits rule

-- a literal rule, whose pattern is as it is stored
abbrev pub IsStoredLiteral : GlobRule → Type 0
IsStoredLiteral rule = (stored_text rule ≡ rule.pattern) × (is_in_literals rule ≡ true)

-- a list of literal rules stands at `at`
pub record IsLiteralList (c : List ℕ) (at : ℕ) (rules : List GlobRule) : Type 0 where
  pub stand : LiteralsAt (Stands c) at rules
  pub literals : All (λ rule. is_in_literals rule ≡ true) rules
  pub limits : All KeepsLimits rules

-- a list of rules of no other list stands at `at`
pub record IsGlobList (c : List ℕ) (at : ℕ) (rules : List GlobRule) : Type 0 where
  pub stand : GlobsAt (Stands c) at rules
  pub globs : All (λ rule. is_in_globs rule ≡ true) rules
  pub limits : All KeepsLimits rules

-- a tree of these rules stands at `at`
pub record IsTreeList (c : List ℕ) (at : ℕ) (rules : List GlobRule) : Type 0 where
  pub stand : SuffixTreeAt (Stands c) at rules
  pub leaves : All (λ rule. is_in_tree rule ≡ true) rules
  pub limits : All KeepsLimits rules
