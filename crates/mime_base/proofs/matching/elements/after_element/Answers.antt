use Rattle.std.proofs.Common.{refl}
use Rattle.mime_base.proofs.MatchingLemmas.Sets.{after-set, after-no_set}
use Rattle.mime_base.proofs.matching.elements.after_element.Goals as goal

pub returns-in-Some : goal.returns-in-Some
returns-in-Some c = record { after = after-set c.args.first c.args.after.now _ _ _ c.in-91.is c.in-Some.ensures.set }

pub returns-in-None : goal.returns-in-None
returns-in-None c = record { after = after-no_set c.args.first c.args.after.now c.in-91.is (c.in-None.ensures.none refl) }
