-- What the text files can spell of rules and of lines of magic.
use Rattle.std.specs.Prelude.{◌≡◌, ◌<◌, true, All, length}
use Rattle.mime_base.specs.Magic.{are_allowed_sections}
use Rattle.mime_base.specs.Database.{PlainDatabase}
use Rattle.mime_base.specs.declared.database.rule.GlobRule.{GlobRule}

-- the weight, the length of the pattern and each of its bytes fit a byte
abbrev pub KeepsLimits : GlobRule → Type 0
KeepsLimits rule = (rule.weight < 256) × (length rule.pattern < 256) × All (λ b. b < 256) rule.pattern

-- each rule, and each line of magic, is one that the text files can spell
pub record IsWithinLimits (b : PlainDatabase) : Type 0 where
  pub rules : All KeepsLimits b.rules
  pub lines : are_allowed_sections b.sections ≡ true
