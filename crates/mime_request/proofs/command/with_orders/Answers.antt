use Rattle.std.proofs.Common.{◌∙◌, refl}
use Rattle.mime_request.proofs.CommandLemmas.AddedRules.{no_more_globals, with_one_more}
use Rattle.mime_request.proofs.command.with_orders.Goals as goal

pub returns-clause-app : goal.returns-clause-app
returns-clause-app c =
    let one = with_one_more _ _ _ _ _ (c.in_ok-command.ensures.shape c.flag.ensures.local) refl c.flag.ensures.rule in
    let two = with_one_more _ _ _ _ _ (c.in_ok-command-2.ensures.shape c.flag-2.ensures.local) one c.flag-2.ensures.rule in
    let three = with_one_more _ _ _ _ _ (c.in_ok-command-3.ensures.shape c.flag-3.ensures.local) two c.flag-3.ensures.rule in
    with_one_more _ _ _ _ _ (c.in_ok-command-4.ensures.shape c.flag-4.ensures.local) three c.flag-4.ensures.rule

pub returns-clause-local : goal.returns-clause-local
returns-clause-local c =
    no_more_globals _ _ _ c.in_ok-command-4.ensures.globals c.flag-4.ensures.local
    ∙ (no_more_globals _ _ _ c.in_ok-command-3.ensures.globals c.flag-3.ensures.local
    ∙ (no_more_globals _ _ _ c.in_ok-command-2.ensures.globals c.flag-2.ensures.local
    ∙ no_more_globals _ _ _ c.in_ok-command.ensures.globals c.flag.ensures.local))
