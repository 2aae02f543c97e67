use Rattle.std.proofs.Common.{◌≡◌, ◌==◌, true, false, rules}
use Rattle.mime_base.specs.Matching.Elements.{is_special}
use Rattle.mime_base.specs.Matching.Folding.{compared_byte}
use Rattle.mime_base.proofs.MatchingLemmas.Refused.{second-refused}
use Rattle.mime_base.proofs.matching.attempt.refused_second.Goals as goal

pub returns-clause-goes : goal.returns-clause-goes
returns-clause-goes c other =
    let itself : is_special c.in-Some.first.now ≡ false = search rules in
    let same : (compared_byte c.args.cased c.in-Some.first.now == compared_byte c.args.cased c.in-Some-split_first.byte.now) ≡ true = search rules in
    second-refused c.args.cased _ _ _ c.in-Some.ensures.cases.0 itself _ _ _ c.in-Some-split_first.ensures.cases.0 same
    (c.begins_otherwise.ensures.refused other)
