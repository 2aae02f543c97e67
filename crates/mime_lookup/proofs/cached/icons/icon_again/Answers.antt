use Rattle.mime_lookup.proofs.LookUpLemmas.Askings.{reported}
use Rattle.mime_lookup.proofs.cached.icons.icon_again.Goals as goal

pub returns-in-Err-clause-stops : goal.returns-in-Err-clause-stops
returns-in-Err-clause-stops c = reported c.args.indexed.now _ _ c.in-Err.fault _ c.from.ensures c.in-Err.ensures.stops
