-- The kept rules are the first of the candidates.
use Rattle.std.proofs.lemmas.List.Elements.{All-filter}
use Rattle.mime_base.specs.Matching.Matches.{rule_matches}
use Rattle.mime_base.specs.Kept.{FitsRank, KeptComeFirst, candidate_rules, hits, kept_rules, rank_of_rule}
use Rattle.mime_base.proofs.FallingLemmas.Fronts.{take-of_greatest}
use Rattle.mime_base.proofs.KeptLemmas.{of_greatest-rank_of_rule}

-- for every name the kept rules are the first of the candidates
pub take-candidate_rules : KeptComeFirst
unfolding kept_rules candidate_rules
take-candidate_rules rules ranked name =
    let matching = All-filter (λ rule. rule_matches rule.pattern rule.cased name) FitsRank rules ranked in
    rw (← of_greatest-rank_of_rule (hits rules name) matching) (take-of_greatest rank_of_rule (hits rules name))
