use Rattle.mime_base.proofs.MatchingLemmas.Ends.{no_end-none, no_end-some}
use Rattle.mime_base.proofs.matching.elements.count_endless.Goals as goal

pub returns-in-Some : goal.returns-in-Some
returns-in-Some c = no_end-some _ _ c.in-Some.ensures

pub returns-in-None : goal.returns-in-None
returns-in-None c = no_end-none _ c.in-None.ensures
