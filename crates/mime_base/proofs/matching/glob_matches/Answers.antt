use Rattle.mime_base.proofs.MatchingLemmas.Matches.{rule_matches-decides}
use Rattle.mime_base.proofs.matching.glob_matches.Goals as goal

pub returns-clause-meaning : goal.returns-clause-meaning
returns-clause-meaning c =
    rule_matches-decides c.args.pattern.now c.args.cased c.args.name.now c.search-searched.result.found c.search-searched.ensures.found
