use Rattle.clap.specs.Words.{app_of}
use Rattle.mime_request.specs.CommandLine.{icon_app, is_a_app, type_app}
use Rattle.mime_request.proofs.CommandLemmas.AddedRules.{with_one_command}
use Rattle.mime_request.proofs.command.mimelook_command.Goals as goal

pub returns : goal.returns
returns c =
    let one = with_one_command _ _ _ (app_of c.in_ok-is_a_command.field-0) is_a_app
    (c.in_ok-command-2.ensures.shape c.in_ok-is_a_command.ensures.local) c.in_ok-command.ensures.app
    c.in_ok-is_a_command.ensures.app in
    let two = with_one_command _ _ _ (app_of c.in_ok-icon_command.field-0) icon_app
    (c.in_ok-command-3.ensures.shape c.in_ok-icon_command.ensures.local) one c.in_ok-icon_command.ensures.app in
    with_one_command _ _ _ (app_of c.in_ok-type_command.field-0) type_app
    (c.in_ok-command-4.ensures.shape c.in_ok-type_command.ensures.local) two c.in_ok-type_command.ensures.app
