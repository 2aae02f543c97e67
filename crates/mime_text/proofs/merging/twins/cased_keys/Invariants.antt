use Rattle.std.proofs.Common.{◌≡◌, ◌&&◌, ◌||◌, drop}
use Rattle.std.specs.List.{list_any}
use Rattle.mime_base.specs.Kept.Twins.{are_alike}
use Rattle.mime_base.specs.declared.database.rule.GlobRule.{GlobRule}
use Rattle.mime_text.specs.Merging.TwinKeys.{has_key_of}
use Rattle.mime_text.proofs.merging.twins.cased_keys.Given as goal

-- the keys so far, and the case-sensitive rules that are left
abbrev pub invariant-loop-rule : goal.invariant-loop-rule
invariant-loop-rule l =
    (rule : GlobRule) → (has_key_of l.keys rule || list_any (λ other. other.cased && are_alike rule other) (drop l.rule-index l.rules))
    ≡ list_any (λ other. other.cased && are_alike rule other) l.rules
