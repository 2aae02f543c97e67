use Rattle.std.proofs.Common.{◌<◌, ◌∙◌, length, arith}
use Rattle.std.proofs.lemmas.Result.{err_from_is_err_and}
use Rattle.mime_view.specs.Listing.{plain_listed}
use Rattle.mime_tool.specs.List.{rule_line}
use Rattle.mime_tool.proofs.DeskLemmas.Desks.{prints_cut_at}
use Rattle.mime_tool.proofs.list.print_rules.Goals as goal

pub returns-in_err-print_rule : goal.returns-in_err-print_rule
returns-in_err-print_rule g c =
    let lt : c.loop-rule.rule-index < length c.args.rules.now = omega arith in
    let e = err_from_is_err_and c.from_residual.result c.from_residual.ensures.1 in
    let before = c.loop-rule.invariant in
    let line = c.in_err-print_rule.ensures in
    rw (e.1, e.2) (record {
      same_files = line.same_files ∙ before.same_files;
      same_setting = line.same_setting ∙ before.same_setting;
      sinks = prints_cut_at (Unit {0}) (λ rule. rule_line (plain_listed rule)) c.args.rules.now c.loop-rule.rule-index
          c.rule-item.result
          _ _ _ _ _ lt c.rule-item.is before.sinks line.sinks;
    })
