-- The rules that match a name: those that are kept of their offers, and all by falling rank.
use Rattle.std.proofs.Common.{◌≡◌, ◌∙◌, ℕ, List, map, ap, sym}
use Rattle.std.proofs.lemmas.List.{map-id}
use Rattle.std.proofs.lemmas.List.Elements.{All-filter}
use Rattle.std.proofs.lemmas.Simd.{map-map}
use Rattle.std.specs.List.{All}
use Rattle.mime_base.specs.Database.Lent.{plain_rule}
use Rattle.mime_base.specs.Database.Subclass.{resolved}
use Rattle.mime_base.specs.Falling.{falling}
use Rattle.mime_base.specs.Kept.{FitsRank, candidate_rules, hits, kept_rules, of_greatest, rank_of_rule}
use Rattle.mime_base.specs.Matching.Matches.{rule_matches}
use Rattle.mime_base.specs.declared.database.lent.LentRule.{LentRule}
use Rattle.mime_base.specs.declared.database.rule.GlobRule.{GlobRule}
use Rattle.mime_base.proofs.FallingLemmas.Order.{falling-map}
use Rattle.mime_base.proofs.KeptLemmas.{of_greatest-rank_of_rule}
use Rattle.mime_base.proofs.KeptLemmas.Greatest.{of_greatest-map}
use Rattle.mime_tool.specs.ExplainSteps.{AreRanked, offer_of, plain_offer}

-- the number of an offer, lent or plain
abbrev lent_number : ℕ × LentRule → ℕ
lent_number offer = offer.0

-- the rule of a lent offer
abbrev lent_rule : ℕ × LentRule → LentRule
lent_rule offer = offer.1

-- the rule of a plain offer
abbrev plain_second : ℕ × GlobRule → GlobRule
plain_second offer = offer.1

-- the plain rules of offers are those of plain offers
plain_rules-of : (offers : List (ℕ × LentRule)) → map plain_rule (map lent_rule offers) ≡ map plain_second (map plain_offer offers)
plain_rules-of offers = map-map plain_rule lent_rule offers ∙ sym (map-map plain_second plain_offer offers)

-- rules with their ranks, without them
rules_of-offers : (rules : List GlobRule) → map plain_second (map offer_of rules) ≡ rules
rules_of-offers rules = map-map plain_second offer_of rules ∙ map-id rules

module _ (rules : List GlobRule) (name : List ℕ) (offers : List (ℕ × LentRule)) (are : AreRanked (hits rules name) offers) where
  -- those of the greatest rank are kept
  pub kept-offers : All FitsRank rules → map plain_rule (map lent_rule (of_greatest lent_number offers)) ≡ kept_rules rules name
  unfolding kept_rules
  kept-offers fits =
      let found = hits rules name in
      let number = λ (offer : ℕ × GlobRule). offer.0 in
      plain_rules-of (of_greatest lent_number offers)
      ∙ ap (map plain_second) (sym (of_greatest-map number plain_offer offers) ∙ ap (of_greatest number) are
      ∙ of_greatest-map number offer_of found)
      ∙ rules_of-offers (of_greatest rank_of_rule found)
      ∙ of_greatest-rank_of_rule found (All-filter (λ rule. rule_matches rule.pattern rule.cased name) FitsRank rules fits)

  -- all by falling rank are the candidates
  pub candidates-offers : map plain_rule (map lent_rule (falling lent_number offers)) ≡ candidate_rules rules name
  unfolding candidate_rules
  candidates-offers =
      let found = hits rules name in
      let number = λ (offer : ℕ × GlobRule). offer.0 in
      plain_rules-of (falling lent_number offers)
      ∙ ap (map plain_second) (falling-map plain_offer number offers ∙ ap (falling number) are
      ∙ sym (falling-map offer_of number found))
      ∙ rules_of-offers (falling rank_of_rule found)

-- the types of lent rules after one alias step are those of the plain rules
pub kinds-plain : (aliases : List (List ℕ × List ℕ)) (lent : List LentRule) (rules : List GlobRule) → map plain_rule lent ≡ rules
    → map (λ rule. resolved aliases (plain_rule rule).kind) lent ≡ map (λ rule. resolved aliases rule.kind) rules
kinds-plain aliases lent rules is =
    sym (map-map (λ (rule : GlobRule). resolved aliases rule.kind) plain_rule lent)
    ∙ ap (map (λ (rule : GlobRule). resolved aliases rule.kind)) is
