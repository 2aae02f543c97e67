-- What is held of the offers of the three lists for a name; folding leaves a name without a capital alone.
use Rattle.std.proofs.Common.{◌≡◌, ℕ, ◌&&◌, Bool, true, false, true≢false, List, [], ◌∷◌, ◌++◌, refl, sym, ap, ap₂, subst, ◌∙◌, append_assoc}
use Rattle.std.specs.List.{All}
use Rattle.std.specs.Prelude.{nat_le}
use Rattle.mime_base.specs.Falling.{falling}
use Rattle.mime_base.specs.Kept.{FitsRank, best, candidate_rules, hits, kept_rules, of_greatest, rank_of_rule}
use Rattle.mime_base.specs.Matching.Folding.{compared, compared_byte}
use Rattle.mime_base.specs.declared.database.rule.GlobRule.{GlobRule}
use Rattle.mime_base.proofs.FallingLemmas.Order.{falls_falling, filter_falling, same_order}
use Rattle.mime_base.proofs.KeptLemmas.{of_greatest-rank_of_rule}
use Rattle.mime_view.specs.Gathered.{AreOffers, HoldsRules, IsGathered, Offers, PlainHits, held_of}
use Rattle.mime_view.specs.Hits.{glob_list_hits, literal_hits, offered_once, offered_twice, tree_hits}
use Rattle.mime_view.specs.NameHits.{has_capitals}
use Rattle.mime_view.specs.declared.hits.Case.TheVariants.{Exact, Folded}
use Rattle.mime_view.specs.declared.name_hits.Which.{Which}
use Rattle.mime_view.specs.declared.name_hits.Which.TheVariants.{Candidates, Kept}
use Rattle.mime_view.proofs.HitsLemmas.BestOffers.{best-kept}
use Rattle.mime_view.proofs.HitsLemmas.Offers.{best-offers}
use Rattle.mime_view.proofs.HitsLemmas.RankParts.{of_rank}
use Rattle.mime_view.proofs.HitsLemmas.SameRanks.{of_greatest-each}
use Rattle.mime_view.proofs.HitsLemmas.SortedOffers.{offers-falling}
use Rattle.mime_view.proofs.HitsLemmas.WalkOrder.{hits-fit, walk_once, walk_twice}

-- a name without a capital is its own folded name
pub no_capitals : (name : List ℕ) → has_capitals name ≡ false → compared false name ≡ name
no_capitals [] none = refl
no_capitals (b ∷ name) none = by_first (nat_le 65 b && nat_le b 90) refl none (no_capitals name)
  where
    by_first : (is : Bool) → (nat_le 65 b && nat_le b 90) ≡ is → has_capitals (b ∷ name) ≡ false
        → (has_capitals name ≡ false → compared false name ≡ name) → compared false (b ∷ name) ≡ b ∷ name
    by_first true is none rest = absurd (true≢false (rw is at none))
    by_first false is none rest =
        let same : compared_byte false b ≡ b = rw is refl in
        ap₂ (λ (x : ℕ) (xs : List ℕ). x ∷ xs) same (rest (rw is at none))

-- what both searches, both walks and the glob list offer
pub offered_parts : (name : List ℕ) (rules : List GlobRule)
    → (literal_hits Exact name rules ++ literal_hits Folded (compared false name) rules)
    ++ ((tree_hits Exact name rules ++ tree_hits Folded (compared false name) rules) ++ glob_list_hits name rules)
    ≡ offered_twice name rules
offered_parts name rules =
    let walks = append_assoc (tree_hits Exact name rules) (tree_hits Folded (compared false name) rules) (glob_list_hits name rules) in
    append_assoc (literal_hits Exact name rules) (literal_hits Folded (compared false name) rules) _
    ∙ ap (λ more. literal_hits Exact name rules ++ (literal_hits Folded (compared false name) rules ++ more)) walks

-- before any rule was offered nothing is held
gathered_none : (c : List ℕ) (which : Which) → AreOffers c [] (held_of which [])
gathered_none c Kept = tt
gathered_none c Candidates = tt

module _ (c : List ℕ) (rules : List GlobRule) (name : List ℕ) (fits : All FitsRank rules) where
  -- of the rules that match, those of the greatest rank are the kept ones
  kept-by_rank : of_greatest rank_of_rule (hits rules name) ≡ kept_rules rules name
  unfolding kept_rules
  kept-by_rank = of_greatest-rank_of_rule (hits rules name) (hits-fit rules name fits)

  module _ (offered : List GlobRule) (alike : (n : ℕ) → of_rank n offered ≡ of_rank n (hits rules name)) where
    -- those of the greatest rank that were offered are the kept rules
    best-offered : of_greatest rank_of_rule offered ≡ kept_rules rules name
    best-offered = of_greatest-each rank_of_rule offered (hits rules name) alike ∙ kept-by_rank

    -- by falling rank they are the candidates
    falling-offered : falling rank_of_rule offered ≡ candidate_rules rules name
    unfolding candidate_rules
    falling-offered =
        same_order rank_of_rule (falling rank_of_rule offered) (falling rank_of_rule (hits rules name))
        (falls_falling rank_of_rule offered) (falls_falling rank_of_rule (hits rules name))
        (λ rule.
        filter_falling rank_of_rule (rank_of_rule rule) offered ∙ alike (rank_of_rule rule)
        ∙ sym (filter_falling rank_of_rule (rank_of_rule rule) (hits rules name)))

    -- so what is held is of the rules that are asked for
    holds : (hits : PlainHits) (which : Which) → hits.which ≡ which → AreOffers c hits.offers (held_of which offered)
        → HoldsRules c which name rules hits
    holds hits Kept asked are = record {
      asked = asked;
      ordered = subst (AreOffers c hits.offers) best-offered are;
      first =
          subst (λ (offers : List (ℕ × ℕ)). AreOffers c offers (kept_rules rules name)) (best-kept c hits.offers offered are)
          (subst (AreOffers c hits.offers) best-offered are);
    }
    holds hits Candidates asked are = record {
      asked = asked;
      ordered = subst (AreOffers c (falling (λ offer. offer.0) hits.offers)) falling-offered (offers-falling c hits.offers offered are);
      first = subst (AreOffers c (best hits.offers)) best-offered (best-offers c hits.offers offered are);
    }

    -- the same, of a search that began with nothing
    gathered : (old new : PlainHits) → old.offers ≡ [] → Offers c offered old new → HoldsRules c old.which name rules new
    gathered old new none offers =
        let begun : IsGathered c old [] = rw none (gathered_none c old.which) in
        holds new old.which offers.asked (rw offers.asked at (offers.more [] begun))

  -- what is held where folding leaves the name alone
  pub gathered_once : compared false name ≡ name → (old new : PlainHits) → old.offers ≡ []
      → Offers c (offered_once name rules) old new → HoldsRules c old.which name rules new
  gathered_once alone = gathered (offered_once name rules) (walk_once rules name fits alone)

  -- and for any name
  pub gathered_twice : (old new : PlainHits) → old.offers ≡ [] → Offers c (offered_twice name rules) old new
      → HoldsRules c old.which name rules new
  gathered_twice = gathered (offered_twice name rules) (walk_twice rules name fits)
