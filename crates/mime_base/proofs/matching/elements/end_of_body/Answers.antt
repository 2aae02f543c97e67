use Rattle.std.proofs.Common.{sym, ap, length, arith, length-drop}
use Rattle.mime_base.proofs.MatchingLemmas.Ends.{no_end-drop, no_end-position}
use Rattle.mime_base.proofs.matching.elements.end_of_body.Goals as goal

pub returns-then-later-endless-clause-end : goal.returns-then-later-endless-clause-end
returns-then-later-endless-clause-end c =
    sym (no_end-position c.args.endless _ (no_end-drop c.args.endless 1 c.args.body.now c.requires)
    (omega (arith, length-drop 1 c.args.body.now, ap length c.in-Some.ensures.cases.0, c.if-later-endless.true)))
