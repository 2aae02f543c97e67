-- What is kept of the rules that match, in one pass over them.
use Rattle.std.proofs.Common.{◌≡◌, ℕ, ◌+◌, ◌<◌, true, false, cond, List, [], ◌∷◌, ◌++◌, length, take, get_or, map, refl, sym, ap}
use Rattle.std.proofs.Common.{◌∙◌, arith}
use Rattle.std.specs.List.{All}
use Rattle.std.proofs.lemmas.List.{append-nil, map-append, map-id}
use Rattle.std.proofs.lemmas.List.Elements.{All-push, filter_more}
use Rattle.std.proofs.lemmas.Simd.{map-map}
use denote.Bor.{Bor}
use Rattle.mime_base.specs.Kept.{of_greatest, hits, kept_rules, best, rank_of_rule, FitsRank}
use Rattle.mime_base.specs.Matching.Matches.{rule_matches}
use Rattle.mime_base.specs.declared.database.rule.GlobRule.{GlobRule}
use Rattle.mime_base.proofs.KeptLemmas.Greatest.{of_greatest-map}
use Rattle.mime_base.proofs.KeptLemmas.{of_greatest-rank_of_rule}

-- an offer without its reference, and the offer of a rule
abbrev offered : ℕ × Bor GlobRule → ℕ × GlobRule
offered offer = (offer.0, offer.1.now)

-- a rule with its rank
abbrev offer_of : GlobRule → ℕ × GlobRule
offer_of rule = (rank_of_rule rule, rule)

-- what is kept is the best of the offers of these rules
pub record KeepsBest (kept : List (ℕ × Bor GlobRule)) (rules : List GlobRule) : Type 0 where
  pub offers : List (ℕ × Bor GlobRule)
  pub kept_is : kept ≡ best offers
  pub offers_are : map offered offers ≡ map offer_of rules
  pub ranked : All FitsRank rules

-- before the first offer
pub keeps_none : (kept : List (ℕ × Bor GlobRule)) → kept ≡ [] → KeepsBest kept []
keeps_none kept none = record { offers = []; kept_is = none; offers_are = refl; ranked = λ k rule within. absurd (omega arith) }

-- an offer more
pub keeps_more : (kept new : List (ℕ × Bor GlobRule)) (rules : List GlobRule) (rank : ℕ) (rule : Bor GlobRule) → KeepsBest kept rules →
    rank ≡ rank_of_rule rule.now → FitsRank rule.now →
    ((offers : List (ℕ × Bor GlobRule)) → kept ≡ best offers → new ≡ best (offers ++ (rank, rule) ∷ [])) →
    KeepsBest new (rules ++ rule.now ∷ [])
keeps_more kept new rules rank rule so_far rank_is ranked says = record {
  offers = so_far.offers ++ (rank, rule) ∷ [];
  kept_is = says so_far.offers so_far.kept_is;
  offers_are =
      map-append offered so_far.offers ((rank, rule) ∷ [])
      ∙ ap (λ front. front ++ (rank, rule.now) ∷ []) so_far.offers_are
      ∙ ap (λ n. map offer_of rules ++ (n, rule.now) ∷ []) rank_is
      ∙ sym (map-append offer_of rules (rule.now ∷ []));
  ranked = All-push FitsRank rules rule.now so_far.ranked ranked;
}

-- after the last rule
pub keeps_all : (kept : List (ℕ × Bor GlobRule)) (rules : List GlobRule) (name : List ℕ) → KeepsBest kept (hits rules name) →
    map (λ rule. rule.now) (map (λ offer. offer.1) kept) ≡ kept_rules rules name
unfolding kept_rules
keeps_all kept rules name so_far =
    let found = hits rules name in
    let best_offers : map offered (best so_far.offers) ≡ map offer_of (of_greatest rank_of_rule found) =
    sym (of_greatest-map (λ offer. offer.0) offered so_far.offers)
    ∙ ap best so_far.offers_are
    ∙ of_greatest-map (λ offer. offer.0) offer_of found in
    ap (λ offers. map (λ (rule : Bor GlobRule). rule.now) (map (λ (offer : ℕ × Bor GlobRule). offer.1) offers)) so_far.kept_is
    ∙ map-map (λ (rule : Bor GlobRule). rule.now) (λ (offer : ℕ × Bor GlobRule). offer.1) (best so_far.offers)
    ∙ sym (map-map (λ (offer : ℕ × GlobRule). offer.1) offered (best so_far.offers))
    ∙ ap (map (λ (offer : ℕ × GlobRule). offer.1)) best_offers
    ∙ map-map (λ (offer : ℕ × GlobRule). offer.1) offer_of (of_greatest rank_of_rule found)
    ∙ map-id (of_greatest rank_of_rule found)
    ∙ of_greatest-rank_of_rule found so_far.ranked

-- one rule more, which is a hit or a miss
module _ (rules : List GlobRule) (name : List ℕ) (i : ℕ) (rule : GlobRule) (within : i < length rules)
    (is : rule ≡ get_or rules i rule) where
  -- one rule more is one hit more where it matches
  hits-more : hits (take (i + 1) rules) name ≡ hits (take i rules) name ++ cond (rule_matches rule.pattern rule.cased name) (rule ∷ []) []
  hits-more =
      filter_more (λ r. rule_matches r.pattern r.cased name) rules i rule within
      ∙ ap (λ r. hits (take i rules) name ++ cond (rule_matches r.pattern r.cased name) (r ∷ []) []) (sym is)

  -- a rule that matches is one hit more
  pub hit_more : rule_matches rule.pattern rule.cased name ≡ true → hits (take (i + 1) rules) name ≡ hits (take i rules) name ++ rule ∷ []
  hit_more matches = hits-more ∙ ap (λ b. hits (take i rules) name ++ cond b (rule ∷ []) []) matches

  -- another is none
  pub miss_more : rule_matches rule.pattern rule.cased name ≡ false → hits (take (i + 1) rules) name ≡ hits (take i rules) name
  miss_more differs =
      hits-more ∙ ap (λ b. hits (take i rules) name ++ cond b (rule ∷ []) []) differs ∙ append-nil (hits (take i rules) name)
