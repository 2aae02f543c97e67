use Rattle.std.proofs.Common.{◌∙◌, ap}
use Rattle.mime_request.specs.CommandLine.{with_looks, with_output, with_subjects}
use Rattle.mime_request.proofs.CommandLemmas.AddedRules.{with_one_more}
use Rattle.mime_request.proofs.command.plain_command.Goals as goal

pub returns-clause-app : goal.returns-clause-app
returns-clause-app c =
    let none = c.in_ok-command.ensures.app ∙ c.new.ensures.app in
    let one = with_one_more _ _ _ _ _ (c.in_ok-command-2.ensures.shape c.directories.ensures.local) none
    c.directories.ensures.rule in
    let two = c.in_ok-command-3.ensures.app ∙ ap with_looks one in
    let three = c.in_ok-command-4.ensures.app ∙ ap with_output two in
    c.in_ok-command-5.ensures.app ∙ ap with_subjects three
