-- Hits that are those of rules: one more, those of a rank, the best, and their types.
use Rattle.std.proofs.Common.{◌≡◌, ℕ, suc, ◌==◌, Bool, true, false, cond, List, [], ◌∷◌, ◌++◌, length, map, max}
use Rattle.std.proofs.Common.{refl, sym, ap, ap₂, subst}
use Rattle.std.specs.Prelude.{Ok}
use Rattle.std.specs.List.{filter}
use Rattle.mime_base.specs.Cache.Texts.{text_at}
use Rattle.mime_base.specs.Kept.{best, greatest, of_greatest, rank_of_rule}
use Rattle.mime_base.specs.declared.database.rule.GlobRule.{GlobRule}
use Rattle.mime_view.specs.Gathered.{AreOffers}
use Rattle.mime_view.specs.Texts.{AreTexts}

-- one offer after others
pub offers-push : (c : List ℕ) (offers : List (ℕ × ℕ)) (rules : List GlobRule) (offer : ℕ × ℕ) (rule : GlobRule) → AreOffers c offers rules
    → offer.0 ≡ rank_of_rule rule → text_at c offer.1 ≡ Ok rule.kind → AreOffers c (offers ++ offer ∷ []) (rules ++ rule ∷ [])
offers-push c [] [] offer rule are rank kind = (rank, kind, tt)
offers-push c [] (r ∷ rules) offer rule are rank kind = absurd are
offers-push c (o ∷ offers) [] offer rule are rank kind = absurd are
offers-push c (o ∷ offers) (r ∷ rules) offer rule are rank kind =
    (are.0, are.1, offers-push c offers rules offer rule are.2 rank kind)

-- offers have the ranks of their rules
pub top-offers : (c : List ℕ) (offers : List (ℕ × ℕ)) (rules : List GlobRule) → AreOffers c offers rules
    → greatest (λ offer. offer.0) offers ≡ greatest rank_of_rule rules
top-offers c [] [] are = refl
top-offers c [] (rule ∷ rules) are = absurd are
top-offers c (offer ∷ offers) [] are = absurd are
top-offers c (offer ∷ offers) (rule ∷ rules) are = ap₂ max are.0 (top-offers c offers rules are.2)

-- the offers of a rank are those of the rules of this rank
pub offers-filter : (c : List ℕ) (n : ℕ) (offers : List (ℕ × ℕ)) (rules : List GlobRule) → AreOffers c offers rules
    → AreOffers c (filter (λ offer. offer.0 == n) offers) (filter (λ rule. rank_of_rule rule == n) rules)
offers-filter c n [] [] are = are
offers-filter c n [] (rule ∷ rules) are = absurd are
offers-filter c n (offer ∷ offers) [] are = absurd are
offers-filter c n (offer ∷ offers) (rule ∷ rules) are =
    let same : (offer.0 == n) ≡ (rank_of_rule rule == n) = ap (λ k. k == n) are.0 in
    rw same (by_test (rank_of_rule rule == n) (offers-filter c n offers rules are.2))
  where
    by_test : (b : Bool)
        → AreOffers c (filter (λ offer. offer.0 == n) offers) (filter (λ rule. rank_of_rule rule == n) rules)
        → AreOffers c (cond b (offer ∷ filter (λ offer. offer.0 == n) offers) (filter (λ offer. offer.0 == n) offers))
        (cond b (rule ∷ filter (λ rule. rank_of_rule rule == n) rules) (filter (λ rule. rank_of_rule rule == n) rules))
    by_test true rest = (are.0, are.1, rest)
    by_test false rest = rest

-- the best offers are those of the rules of the greatest rank
pub best-offers : (c : List ℕ) (offers : List (ℕ × ℕ)) (rules : List GlobRule) → AreOffers c offers rules
    → AreOffers c (best offers) (of_greatest rank_of_rule rules)
best-offers c offers rules are =
    subst (λ (n : ℕ). AreOffers c (filter (λ offer. offer.0 == n) offers) (of_greatest rank_of_rule rules))
    (sym (top-offers c offers rules are)) (offers-filter c (greatest rank_of_rule rules) offers rules are)

-- there are as many as rules
pub length-offers : (c : List ℕ) (offers : List (ℕ × ℕ)) (rules : List GlobRule) → AreOffers c offers rules → length offers ≡ length rules
length-offers c [] [] are = refl
length-offers c [] (rule ∷ rules) are = absurd are
length-offers c (offer ∷ offers) [] are = absurd are
length-offers c (offer ∷ offers) (rule ∷ rules) are = ap suc (length-offers c offers rules are.2)

-- the types of the rules stand at the offsets of the offers
pub types-offered : (c : List ℕ) (offers : List (ℕ × ℕ)) (rules : List GlobRule) → AreOffers c offers rules
    → AreTexts c (map (λ offer. offer.1) offers) (map (λ rule. rule.kind) rules)
types-offered c [] [] are = tt
types-offered c [] (rule ∷ rules) are = absurd are
types-offered c (offer ∷ offers) [] are = absurd are
types-offered c (offer ∷ offers) (rule ∷ rules) are = (are.1, types-offered c offers rules are.2)
