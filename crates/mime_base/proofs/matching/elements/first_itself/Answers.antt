use Rattle.std.proofs.Common.{sym, ◌∙◌, arith}
use Rattle.mime_base.proofs.MatchingLemmas.Refused.{itself-refuses}
use Rattle.mime_base.proofs.matching.elements.first_itself.Goals as goal

pub returns-in-Some-clause-refused : goal.returns-in-Some-clause-refused
returns-in-Some-clause-refused c =
    itself-refuses c.args.pattern.now c.in-Some.first.now c.in-Some._after.now c.in-Some.ensures.cases.0
    (sym c.is_special.ensures ∙ c.if-not-is_special.true) (omega (arith, c.if-first-lt65.true))
