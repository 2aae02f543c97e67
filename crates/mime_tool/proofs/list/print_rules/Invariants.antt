use Rattle.std.proofs.Common.{Ok, take}
use Rattle.std.specs.List.{flat_map}
use Rattle.mime_view.specs.Listing.{plain_listed}
use Rattle.mime_tool.specs.Desk.{Does, Works}
use Rattle.mime_tool.specs.List.{rule_line}
use Rattle.mime_tool.specs.Run.{printed}
use Rattle.mime_tool.proofs.list.print_rules.Given as goal

abbrev pub invariant-loop-rule : goal.invariant-loop-rule
invariant-loop-rule g l =
    Works (Does {X = Unit {0}} (printed (flat_map (λ rule. rule_line (plain_listed rule)) (take l.rule-index l.rules))))
    (g.D.Desk.state l.initial.desk) (g.D.Desk.state l.desk) (Ok tt)
