use Rattle.std.proofs.Common.{◌∙◌, ap}
use Rattle.mime_request.specs.CommandLine.{with_orders}
use Rattle.mime_request.proofs.CommandLemmas.AddedRules.{with_one_more}
use Rattle.mime_request.proofs.command.explain_command.Goals as goal

pub returns-clause-app : goal.returns-clause-app
returns-clause-app c =
    let one = c.in_ok-command-2.ensures.app ∙ ap with_orders c.in_ok-command.ensures.app in
    let two = with_one_more _ _ _ _ _ (c.in_ok-command-3.ensures.shape c.flag.ensures.local) one c.flag.ensures.rule in
    with_one_more _ _ _ _ _ (c.in_ok-command-4.ensures.shape c.explained.ensures.local) two c.explained.ensures.rule
