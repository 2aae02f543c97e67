use Rattle.std.proofs.Common.{◌≡◌, ◌==◌, false, true, sym, ◌∙◌}
use Rattle.std.proofs.lemmas.Bool.{not-true}
use Rattle.mime_base.specs.Matching.Attempt.{refuses}
use Rattle.mime_base.specs.Matching.Elements.{elements, is_special}
use Rattle.mime_base.specs.Matching.Folding.{compared, compared_byte}
use Rattle.mime_base.proofs.MatchingLemmas.Endings.{other-refused, refused-first}
use Rattle.mime_base.proofs.MatchingLemmas.Matches.{rule_matches-compared}
use Rattle.mime_base.proofs.matching.elements.begins_otherwise.Goals as goal

pub returns-then-not-is_special-clause-refused : goal.returns-then-not-is_special-clause-refused
returns-then-not-is_special-clause-refused c other =
    let differ : (compared_byte c.args.cased c.in-Some.first.now == compared_byte c.args.cased c.in-Some-split_first.byte.now) ≡ false =
    rw (c.as_compared.ensures, c.as_compared-then-not-is_special.ensures) at (not-true _ other) in
    let itself : is_special c.in-Some.first.now ≡ false = sym c.is_special.ensures ∙ c.if-not-is_special.true in
    other-refused c.args.cased _ _ _ c.in-Some.ensures.cases.0 itself _ _ _ c.in-Some-split_first.ensures.cases.0 differ

pub returns-then-not-is_special-clause-other : goal.returns-then-not-is_special-clause-other
returns-then-not-is_special-clause-other c other =
    let refused : refuses (elements (compared c.args.cased c.args.pattern.now)) (compared c.args.cased c.args.name.now) ≡ true =
    returns-then-not-is_special-clause-refused c other in
    rule_matches-compared c.args.pattern.now c.args.cased c.args.name.now
    ∙ (refused-first (elements (compared c.args.cased c.args.pattern.now)) (compared c.args.cased c.args.name.now) refused).0
