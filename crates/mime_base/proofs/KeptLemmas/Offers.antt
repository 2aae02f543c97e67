-- What is kept of offers, each a rank and an item.
use Rattle.std.proofs.Common.{◌≡◌, ℕ, ◌<◌, ◌==◌, Bool, true, false, ◌&&◌, List, [], ◌∷◌, ◌++◌, map, refl, sym, ap, ◌∙◌, arith, eqb-true}
use Rattle.std.specs.Prelude.{nat_le}
use Rattle.std.specs.List.{list_all}
use Rattle.std.proofs.Math.Dec.{leb-zero}
use Rattle.std.proofs.lemmas.List.{map-append}
use Rattle.std.proofs.lemmas.List.Elements.{filter_passes, All-head, All-same}
use Rattle.mime_base.specs.Kept.{greatest, best}
use Rattle.mime_base.proofs.KeptLemmas.Greatest.{of_greatest-none, push-less, push-same, push-more}

module _ {X : Type 0} where
  -- the greatest rank
  abbrev top : List (ℕ × X) → ℕ
  top offers = greatest (λ offer. offer.0) offers

  -- items that share a rank
  abbrev ranked : ℕ → List X → List (ℕ × X)
  ranked rank items = map (λ item. (rank, item)) items

  module _ (rank : ℕ) (items : List X) (none : items ≡ [] → rank ≡ 0) (offers : List (ℕ × X)) (kept : ranked rank items ≡ best offers) where
    -- the rank of what is kept is the greatest that was offered
    rank-top : (items' : List X) → items ≡ items' → rank ≡ top offers
    rank-top [] is =
        none is ∙ sym (ap top (of_greatest-none (λ offer. offer.0) offers (sym kept ∙ ap (ranked rank) is)))
    rank-top (item ∷ rest) is =
        let passes = filter_passes (λ offer. offer.0 == top offers) offers in
        eqb-true rank (top offers) (All-head (λ offer. (offer.0 == top offers) ≡ true) (rank, item) (ranked rank rest)
        (All-same (λ offer. (offer.0 == top offers) ≡ true) _ _ (sym (ap (ranked rank) is) ∙ kept) passes))

    -- what is kept after a new offer, by its rank
    module _ (new : ℕ) (item : X) where
      pub offer-less : new < rank → ranked rank items ≡ best (offers ++ (new, item) ∷ [])
      offer-less less =
          let is = rank-top items refl in
          kept ∙ sym (push-less (λ offer. offer.0) offers (new, item) (omega arith))

      pub offer-same : new ≡ rank → ranked new (items ++ item ∷ []) ≡ best (offers ++ (new, item) ∷ [])
      offer-same same =
          let is = rank-top items refl in
          map-append (λ i. (new, i)) items (item ∷ [])
          ∙ ap (λ front. front ++ (new, item) ∷ []) (ap (λ n. ranked n items) same ∙ kept)
          ∙ sym (push-same (λ offer. offer.0) offers (new, item) (omega arith))

      pub offer-more : rank < new → ranked new (item ∷ []) ≡ best (offers ++ (new, item) ∷ [])
      offer-more more =
          let is = rank-top items refl in
          sym (push-more (λ offer. offer.0) offers (new, item) (omega arith))

  -- items that share a rank are all wanted, or none is
  wanted-all : (rank new : ℕ) (items : List X) → nat_le rank new ≡ true → list_all (λ offer. nat_le offer.0 new) (ranked rank items) ≡ true
  wanted-all rank new [] is = refl
  wanted-all rank new (item ∷ items) is = rw (is, wanted-all rank new items is) refl

  -- an offer is wanted where none that is kept has a greater rank
  pub wanted : (rank new : ℕ) (items : List X) → (items ≡ [] → rank ≡ 0)
      → nat_le rank new ≡ list_all (λ offer. nat_le offer.0 new) (ranked rank items)
  wanted rank new [] none = rw (none refl) (leb-zero new)
  wanted rank new (item ∷ items) none = by_test (nat_le rank new) refl
    where
      by_test : (b : Bool) → nat_le rank new ≡ b
          → nat_le rank new ≡ (nat_le rank new && list_all (λ offer. nat_le offer.0 new) (ranked rank items))
      by_test true is = rw (is, wanted-all rank new items is) refl
      by_test false is = rw is refl

  -- the items without their rank
  pub items-ranked : (rank : ℕ) (items : List X) → map (λ offer. offer.1) (ranked rank items) ≡ items
  items-ranked rank [] = refl
  items-ranked rank (item ∷ items) = ap (λ rest. item ∷ rest) (items-ranked rank items)
