use Rattle.std.proofs.Common.{◌∙◌}
use Rattle.mime_request.proofs.CommandLemmas.AddedRules.{no_more_globals, with_one_more}
use Rattle.mime_request.proofs.command.with_looks.Goals as goal

pub returns-clause-app : goal.returns-clause-app
returns-clause-app c =
    with_one_more _ _ _ _ _ (c.in_ok-command-2.ensures.shape c.flag.ensures.local) c.in_ok-command.ensures.app c.flag.ensures.rule

pub returns-clause-local : goal.returns-clause-local
returns-clause-local c =
    no_more_globals _ _ _ c.in_ok-command-2.ensures.globals c.flag.ensures.local ∙ c.in_ok-command.ensures.local
