use Rattle.std.proofs.Common.{sym, ◌∙◌}
use Rattle.mime_view.specs.declared.fault.CacheFault.TheVariants.{Spent}
use Rattle.mime_lookup.proofs.LookUpLemmas.Askings.{reported}
use Rattle.mime_lookup.proofs.StopLemmas.Cause.{says_fault}
use Rattle.mime_lookup.proofs.cached.subclass.is_a_again.Goals as goal

pub returns-in-Err-clause-stops : goal.returns-in-Err-clause-stops
returns-in-Err-clause-stops c = reported c.args.indexed.now _ _ c.in-Err.fault _ c.from.ensures c.in-Err.ensures.stops

pub returns-in-Err-clause-spent : goal.returns-in-Err-clause-spent
returns-in-Err-clause-spent c = λ spent.
    c.in-Err.ensures.spent (says_fault c.in-Err.fault Spent (sym c.from.ensures ∙ spent))
