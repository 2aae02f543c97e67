use Rattle.std.proofs.Common.{◌∙◌, refl}
use Rattle.mime_request.proofs.CommandLemmas.AddedRules.{no_more_globals, with_one_more}
use Rattle.mime_request.proofs.command.with_subjects.Goals as goal

pub returns-clause-app : goal.returns-clause-app
returns-clause-app c =
    let one = with_one_more _ _ _ _ _ (c.in_ok-command.ensures.shape c.files_list.ensures.local) refl c.files_list.ensures.rule in
    let two = with_one_more _ _ _ _ _ (c.in_ok-command-2.ensures.shape c.input.ensures.local) one c.input.ensures.rule in
    with_one_more _ _ _ _ _ (c.in_ok-command-3.ensures.shape c.files.ensures.local) two c.files.ensures.rule

pub returns-clause-local : goal.returns-clause-local
returns-clause-local c =
    no_more_globals _ _ _ c.in_ok-command-3.ensures.globals c.files.ensures.local
    ∙ (no_more_globals _ _ _ c.in_ok-command-2.ensures.globals c.input.ensures.local
    ∙ no_more_globals _ _ _ c.in_ok-command.ensures.globals c.files_list.ensures.local)
