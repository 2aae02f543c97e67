use Rattle.std.proofs.Common.{arith, inr}
use Rattle.mime_lookup.specs.StepFaults.{IsSearchFault, IsSubclassFault}
use Rattle.mime_lookup.proofs.LookUpLemmas.Askings.{opened_stops}
use Rattle.mime_lookup.proofs.StopLemmas.Cause.{caused}
use Rattle.mime_lookup.proofs.cached.subclass.search_opened.Goals as goal

pub returns-clause-stops : goal.returns-clause-stops
returns-clause-stops c =
    let cache = c.args.indexed.now in
    let budget = c.search-found.new.spending.budget in
    opened_stops cache (IsSubclassFault cache) (IsSearchFault cache budget) _ c.search-found.result c.budget.ensures.opens
    c.search-found.ensures.fault (λ e is. caused (IsSubclassFault cache) e (inr (budget, is)))
    (λ b enough small. c.search-found.ensures.need b enough.0 (omega (arith, enough.1.records, c.budget.ensures.records)))
