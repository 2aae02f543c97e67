use Rattle.std.proofs.Common.{get_or, arith, rules}
use Rattle.std.proofs.lemmas.Slice.{first_rest}
use Rattle.mime_base.proofs.MatchingLemmas.Places.{star-next}
use Rattle.mime_base.proofs.matching.try_front.Goals as goal

pub returns-in-42-clause-goes : goal.returns-in-42-clause-goes
returns-in-42-clause-goes c =
    star-next c.args.cased c.args.pattern.now (get_or c.args.pattern.now 0 0) _
    (first_rest c.args.pattern.now 0 (omega arith)) (search rules)
