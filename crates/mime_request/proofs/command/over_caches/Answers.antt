use Rattle.clap.specs.Words.{app_of}
use Rattle.mime_request.specs.CommandLine.{check_app, explain_app, list_app}
use Rattle.mime_request.proofs.CommandLemmas.AddedRules.{with_one_command}
use Rattle.mime_request.proofs.command.over_caches.Goals as goal

pub returns-clause-app : goal.returns-clause-app
returns-clause-app c =
    let one = with_one_command _ _ _ (app_of c.in_ok-list_command.field-0) list_app
    (c.in_ok-command-2.ensures.shape c.in_ok-list_command.ensures.local) c.in_ok-command.ensures.app
    c.in_ok-list_command.ensures.app in
    let two = with_one_command _ _ _ (app_of c.in_ok-check_command.field-0) check_app
    (c.in_ok-command-3.ensures.shape c.in_ok-check_command.ensures.local) one c.in_ok-check_command.ensures.app in
    with_one_command _ _ _ (app_of c.in_ok-explain_command.field-0) explain_app
    (c.in_ok-command-4.ensures.shape c.in_ok-explain_command.ensures.local) two c.in_ok-explain_command.ensures.app
