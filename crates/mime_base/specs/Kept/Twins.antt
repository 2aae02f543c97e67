-- The rules that `globs2` gives beside case-sensitive ones, for older readers.
use Rattle.std.specs.Prelude.{◌≡◌, Bool, not, ◌&&◌, ◌==◌, bytes_eq, List, filter}
use Rattle.std.specs.List.{list_any}
use Rattle.mime_base.specs.Kept.Hidden.{is_hidden, visible}
use Rattle.mime_base.specs.declared.database.rule.GlobRule.{GlobRule}

-- whether two rules have the same weight, type and pattern
abbrev pub are_alike : GlobRule → GlobRule → Bool
are_alike rule other =
    rule.weight == other.weight && bytes_eq rule.kind other.kind && bytes_eq rule.pattern other.pattern

-- whether a rule is a twin: it has no `cs`, and some rule of the same weight, type and pattern has
unfoldable pub is_twin : List GlobRule → GlobRule → Bool
is_twin rules rule = not rule.cased && list_any (λ other. other.cased && are_alike rule other) rules

-- the rules that are no twins, in their order
unfoldable pub without_twins : List GlobRule → List GlobRule
without_twins rules = filter (λ rule. not (is_twin rules rule)) rules

-- of the visible rules those that are no twins are the rules that are neither hidden nor a twin, among all
abbrev pub TwinsOfVisible : Type 0
TwinsOfVisible = (rules : List GlobRule) →
    without_twins (visible rules) ≡ filter (λ rule. not (is_hidden rules rule) && not (is_twin rules rule)) rules
