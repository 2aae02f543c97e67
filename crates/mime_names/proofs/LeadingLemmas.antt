-- What leads among offers after one more, by the places of rules.
use Rattle.std.proofs.Common.{◌≡◌, inl, inr, ℕ, ◌+◌, ◌<◌, List, [], ◌∷◌, ◌++◌, length, get_or, get_or-set_same, get_or-set_other, map, take, drop, slice_set, arith, ap, ◌∙◌, sym}
use Rattle.std.proofs.lemmas.Bool.{cases_eq}
use Rattle.std.proofs.lemmas.List.{drop_more, length-append, length-set, take_more_set}
use Rattle.std.proofs.lemmas.List.Concat.{flat_map-append}
use denote.Bor.{Bor}
use Rattle.mime_base.proofs.KeptLemmas.Offers.{items-ranked, offer-less, offer-same, offer-more}
use Rattle.mime_base.specs.Kept.{best}
use Rattle.mime_names.specs.Chains.{AreBelow}
use Rattle.mime_names.specs.Leading.{IsLeader, kinds_at}
use Rattle.mime_names.specs.declared.indexed_rule.IndexedRule.{IndexedRule}
use Rattle.mime_names.specs.declared.leading.Leader.{Leader}

-- a number that is put in the place of another is below what all are
pub below-set : (size i n : ℕ) (xs : List ℕ) → n < size → AreBelow size xs → AreBelow size (slice_set xs i n)
below-set size i n xs less below k inside = elim (cases_eq k i) [
  | inl same ↦ rw same (omega (arith, get_or-set_same xs i n 0 (omega (arith, same, inside, length-set xs i n)), less))
  | inr other ↦ omega (arith, get_or-set_other xs i k n 0 other, below k (omega (arith, inside, length-set xs i n)))
]

module _ (rules : List IndexedRule) (place : ℕ) (rule : IndexedRule) (within : place < length rules) (here : rule ≡ get_or rules place rule) where
  -- the type at one place
  pub kinds-one : kinds_at rules (place ∷ []) ≡ rule.kind ∷ []
  kinds-one =
      ap (λ (rest : List IndexedRule). map (λ (r : IndexedRule). r.kind) (take 1 rest) ++ []) (drop_more rules place rule within)
      ∙ ap (λ (r : IndexedRule). r.kind ∷ []) (sym here)

  -- and after others
  pub kinds-more : (places : List ℕ) → kinds_at rules (places ++ place ∷ []) ≡ kinds_at rules places ++ rule.kind ∷ []
  kinds-more places =
      flat_map-append (λ p. map (λ (r : IndexedRule). r.kind) (take 1 (drop p rules))) places (place ∷ [])
      ∙ ap (λ last. kinds_at rules places ++ last) kinds-one

module _ (rules : List IndexedRule) (places : List ℕ) (leader : Leader) (offers : List (ℕ × Bor (List ℕ))) (is : IsLeader rules places leader offers) where
  -- the types that lead
  pub leader-kinds : kinds_at rules (take leader.count places) ≡ map (λ offer. offer.1) (best offers)
  leader-kinds =
      sym (items-ranked leader.rank (kinds_at rules (take leader.count places))) ∙ ap (map (λ (offer : ℕ × Bor (List ℕ)). offer.1)) is.best

  -- an offer of a lesser rank
  pub leader-less : (rank : ℕ) (kind : Bor (List ℕ)) → rank < leader.rank → IsLeader rules places leader (offers ++ (rank, kind) ∷ [])
  leader-less rank kind less = record {
    best = offer-less leader.rank (kinds_at rules (take leader.count places)) is.none offers is.best rank kind less;
    none = is.none;
  }

  module _ (rank place : ℕ) (rule : IndexedRule) (within : place < length rules) (here : rule ≡ get_or rules place rule) (inside : leader.count < length places) where
    -- one of a greater rank, whose place is the first
    pub leader-more : leader.rank < rank → IsLeader rules (slice_set places 0 place) (record { rank = rank; count = 1 }) (offers ++ (rank, rule.kind) ∷ [])
    leader-more more =
        let kinds : kinds_at rules (take 1 (slice_set places 0 place)) ≡ rule.kind ∷ [] =
        ap (kinds_at rules) (take_more_set places 0 place (omega (arith, inside))) ∙ kinds-one rules place rule within here in
        record {
          best = ap (map (λ (kind : Bor (List ℕ)). (rank, kind))) kinds
              ∙ offer-more leader.rank (kinds_at rules (take leader.count places)) is.none offers is.best rank rule.kind more;
          none = λ no. absurd (omega (arith, ap length (sym kinds ∙ no)));
        }

    -- one of the same rank, whose place comes behind the others
    pub leader-same : rank ≡ leader.rank →
        IsLeader rules (slice_set places leader.count place) (record { rank = rank; count = leader.count + 1 }) (offers ++ (rank, rule.kind) ∷ [])
    leader-same same =
        let before = kinds_at rules (take leader.count places) in
        let kinds : kinds_at rules (take (leader.count + 1) (slice_set places leader.count place)) ≡ before ++ rule.kind ∷ [] =
        ap (kinds_at rules) (take_more_set places leader.count place inside) ∙ kinds-more rules place rule within here (take leader.count places) in
        record {
          best = ap (map (λ (kind : Bor (List ℕ)). (rank, kind))) kinds
              ∙ offer-same leader.rank before is.none offers is.best rank rule.kind same;
          none = λ no. absurd (omega (arith, ap length (sym kinds ∙ no), length-append before (rule.kind ∷ [])));
        }
