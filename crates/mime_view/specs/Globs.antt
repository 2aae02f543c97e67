-- The glob list as it is read.
use Rattle.std.specs.Prelude.{◌≡◌, ℕ, List, Ok}
use Rattle.mime_base.specs.Cache.Bytes.{field}
use Rattle.mime_base.specs.Cache.Texts.{text_at}
use Rattle.mime_base.specs.Format.Stored.{stored_text, weight_and_flags}
use Rattle.mime_base.specs.declared.database.rule.GlobRule.{GlobRule}

-- how many entries the glob list of a cache states
abbrev pub globs_listed : List ℕ → ℕ
globs_listed c = field c (field c 0 5) 0

-- The entry at `at` is that of a rule.
pub record ReadsGlob (c : List ℕ) (at : ℕ) (rule : GlobRule) : Type 0 where
  -- It names the rule's stored text.
  pub text : text_at c (field c at 0) ≡ Ok (stored_text rule)
  -- It names the rule's type.
  pub kind : text_at c (field c at 1) ≡ Ok rule.kind
  -- It has the rule's weight and flag.
  pub flags : field c at 2 ≡ weight_and_flags rule
