use Rattle.std.proofs.Common.{◌≡◌, ◌++◌, drop, map}
use Rattle.std.specs.List.{flat_map}
use Rattle.mime_base.specs.Database.Lent.{plain_rule}
use Rattle.mime_load.specs.Lent.{plain_pairs}
use Rattle.mime_tool.specs.Explain.{glob_line}
use Rattle.mime_tool.proofs.explain.lines.push_rules.Given as goal

abbrev pub invariant-loop-place : goal.invariant-loop-place
invariant-loop-place l =
    l.initial.lines.items ++ flat_map (glob_line l.output (plain_pairs l.aliases) l.kept) (drop l.from (map plain_rule l.rules))
    ≡ l.lines.items ++ flat_map (glob_line l.output (plain_pairs l.aliases) l.kept) (drop l.place (map plain_rule l.rules))
