-- Entries of the literal list, as they are read, and what a search for a text takes of them.
use Rattle.std.specs.Prelude.{◌≡◌, ℕ, ◌+◌, false, List, [], ◌∷◌, length, min, filter, Ok, bytes_eq}
use Rattle.mime_base.specs.Cache.Bytes.{field}
use Rattle.mime_base.specs.Cache.Texts.{text_at}
use Rattle.mime_base.specs.Format.Sorted.{with_key}
use Rattle.mime_base.specs.Format.Stored.{stored_text, weight_and_flags}
use Rattle.mime_base.specs.Kept.{FitsRank}
use Rattle.mime_base.specs.Kept.Classes.{class_of}
use Rattle.mime_base.specs.declared.database.rule.GlobRule.{GlobRule}
use Rattle.mime_base.specs.declared.kept.class.Class.TheVariants.{Literal}
use Rattle.mime_view.specs.Hits.{takes_rule}
use Rattle.mime_view.specs.declared.hits.Case.{Case}

-- The entry at `at` is that of a rule.
pub record ReadsRule (c : List ℕ) (at : ℕ) (rule : GlobRule) : Type 0 where
  -- It names the rule's stored text.
  pub text : text_at c (field c at 0) ≡ Ok (stored_text rule)
  -- It names the rule's type.
  pub kind : text_at c (field c at 1) ≡ Ok rule.kind
  -- It has the rule's weight and flag.
  pub flags : field c at 2 ≡ weight_and_flags rule

-- entries of these rules are read one after another
abbrev pub ReadsRules : List ℕ → ℕ → List GlobRule → Type 0
ReadsRules c at [] = Unit {0}
ReadsRules c at (rule ∷ rules) = ReadsRule c at rule × ReadsRules c (at + 12) rules

-- a rule without a special byte, whose rank has room for its weight and its length
abbrev pub IsLiteral : GlobRule → Type 0
IsLiteral rule = FitsRank rule × (class_of rule.pattern ≡ Literal)

-- the rules of a text
abbrev pub of_text : List ℕ → List GlobRule → List GlobRule
of_text key rules = with_key stored_text key rules

-- after a rule of another text no rule is of this one
abbrev pub AreRun : List ℕ → List GlobRule → Type 0
AreRun key [] = Unit {0}
AreRun key (rule ∷ rules) = (bytes_eq (stored_text rule) key ≡ false → of_text key rules ≡ []) × AreRun key rules

-- of the rules of a text, those that a search takes
abbrev pub taken : Case → List ℕ → List GlobRule → List GlobRule
taken case key rules = filter (λ rule. takes_rule case rule.cased) (of_text key rules)

-- how many entries a search for a text visits: those of the text, and the one after them
abbrev pub run_visits : List ℕ → List GlobRule → ℕ
run_visits key rules = min (length (of_text key rules) + 1) (length rules)
