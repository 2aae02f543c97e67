-- The types that are given for a name, of the hits that are held.
use Rattle.std.proofs.Common.{◌≡◌, ℕ, ◌≤◌, List, length, map, Ok, ◌∙◌, arith}
use Rattle.std.specs.List.{All}
use Rattle.std.proofs.lemmas.List.{length-map}
use Rattle.mime_base.specs.Cache.Texts.{text_at}
use Rattle.mime_base.specs.Kept.{best, kept_rules}
use Rattle.mime_base.specs.declared.database.rule.GlobRule.{GlobRule}
use Rattle.mime_view.specs.Gathered.{AreGiven, HoldsRules, PlainHits, asked_rules, in_order}
use Rattle.mime_view.specs.NameHits.{AreHits}
use Rattle.mime_view.specs.Texts.{AreTexts}
use Rattle.mime_view.specs.declared.name_hits.NameHits.{NameHits}
use Rattle.mime_view.specs.declared.name_hits.Which.{Which}
use Rattle.mime_view.proofs.HitsLemmas.KeptNear.{greatest-shorter}
use Rattle.mime_view.proofs.HitsLemmas.KindTexts.{AreTexts-all, AreTexts-length, AreTexts-same}
use Rattle.mime_view.proofs.HitsLemmas.Offers.{length-offers, types-offered}
use Rattle.mime_view.proofs.HitsLemmas.SortedOffers.{length-in_order}

module _ (c : List ℕ) (hits : PlainHits) where
  -- the offsets of the types, in the order that is asked for
  abbrev places : List ℕ
  places = map (λ hit. hit.1) (in_order hits.which hits.offers)

  module _ (which : Which) (name : List ℕ) (rules : List GlobRule) (holds : HoldsRules c which name rules hits) where
    -- the types of the rules that are asked for stand there
    pub types_stand : AreTexts c places (map (λ rule. rule.kind) (asked_rules which rules name))
    types_stand = rw holds.asked (types-offered c (in_order which hits.offers) (asked_rules which rules name) holds.ordered)

    -- so they are what is given
    pub types_given : (given : NameHits) → AreGiven c hits given → AreHits which name rules given
    types_given given are = record {
      types = AreTexts-same c places given.kinds (map (λ rule. rule.kind) (asked_rules which rules name)) are.texts types_stand;
      count = are.count ∙ length-offers c (best hits.offers) (kept_rules rules name) holds.first;
    }

  module _ (given : NameHits) (are : AreGiven c hits given) where
    -- each type is a text of the cache
    pub given-all : All (λ kind. (at : ℕ) × (text_at c at ≡ Ok kind)) given.kinds
    given-all = AreTexts-all c places given.kinds are.texts

    -- there is one for each hit
    pub length-given : length given.kinds ≡ length hits.offers
    length-given =
        AreTexts-length c places given.kinds are.texts ∙ length-map (in_order hits.which hits.offers) (λ hit. hit.1)
        ∙ length-in_order hits.which hits.offers

    -- no more are kept than are given
    pub kept-within : given.kept ≤ length given.kinds
    kept-within = omega (arith, are.count, length-given, greatest-shorter (λ (offer : ℕ × ℕ). offer.0) hits.offers)
