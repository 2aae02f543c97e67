-- What a search gathers of the hits that the lists of a cache offer: the best of them, or all.
use Rattle.std.specs.Prelude.{◌≡◌, ◌⊎◌, ℕ, ◌+◌, ◌≤◌, nat_le, Bool, true, List, [], ◌∷◌, ◌++◌, Contains, length, map, Ok}
use Rattle.std.specs.List.{list_all}
use Rattle.mime_base.specs.Cache.Texts.{text_at}
use Rattle.mime_base.specs.Falling.{falling}
use Rattle.mime_base.specs.Kept.{best, candidate_rules, kept_rules, of_greatest, rank_of_rule}
use Rattle.mime_base.specs.declared.database.rule.GlobRule.{GlobRule}
use Rattle.mime_view.specs.declared.hits.Gathered.{Gathered}
use Rattle.mime_view.specs.declared.hits.Gathered.TheVariants.{Best, Every}
use Rattle.mime_view.specs.Texts.{AreTexts}
use Rattle.mime_view.specs.declared.name_hits.NameHits.{NameHits}
use Rattle.mime_view.specs.declared.name_hits.Which.{Which}
use Rattle.mime_view.specs.declared.name_hits.Which.TheVariants.{Candidates, Kept}

-- What is gathered for a name.
pub record PlainHits : Type 0 where
  -- Which rules are asked for.
  pub which : Which
  -- The hits that are held, each a rank and the offset of a type.
  pub offers : List (ℕ × ℕ)

-- the plain value of what is gathered
abbrev pub plain_hits : Gathered → PlainHits
plain_hits (Best hits) = record { which = Kept; offers = hits }
plain_hits (Every hits) = record { which = Candidates; offers = hits.items }

-- the offsets of the types of hits
abbrev pub places_of : List (ℕ × ℕ) → List ℕ
places_of offers = map (λ offer. offer.1) offers

-- each hit is one of the old, or of a type at such a place
abbrev pub AddsAt : (ℕ → Type 0) → List (ℕ × ℕ) → List (ℕ × ℕ) → Type 0
AddsAt Is old new = (place : ℕ) → Contains (places_of new) place → Contains (places_of old) place ⊎ Is place

-- A hit of a type at this place is offered.
pub record TakesHit (kind : ℕ) (old new : List (ℕ × ℕ)) : Type 0 where
  -- At most one hit is added.
  pub few : length new ≤ length old + 1
  -- It is that hit.
  pub added : AddsAt (λ place. place ≡ kind) old new

-- whether a hit of this rank would be held
abbrev pub wants_rank : Which → List (ℕ × ℕ) → ℕ → Bool
wants_rank Kept offers rank = list_all (λ offer. nat_le offer.0 rank) offers
wants_rank Candidates offers rank = true

-- the hits in the order in which their types are given
abbrev pub in_order : Which → List (ℕ × ℕ) → List (ℕ × ℕ)
in_order Kept offers = offers
in_order Candidates offers = falling (λ offer. offer.0) offers

-- the rules of a name that are asked for
abbrev pub asked_rules : Which → List GlobRule → List ℕ → List GlobRule
asked_rules Kept rules name = kept_rules rules name
asked_rules Candidates rules name = candidate_rules rules name

-- these hits are those of the rules, in their order
abbrev pub AreOffers : List ℕ → List (ℕ × ℕ) → List GlobRule → Type 0
AreOffers c [] [] = Unit {0}
AreOffers c [] (rule ∷ rules) = ⊥
AreOffers c (offer ∷ offers) [] = ⊥
AreOffers c (offer ∷ offers) (rule ∷ rules) =
    (offer.0 ≡ rank_of_rule rule) × (text_at c offer.1 ≡ Ok rule.kind) × AreOffers c offers rules

-- of the rules that were offered, those that are held: of the greatest rank, or all
abbrev pub held_of : Which → List GlobRule → List GlobRule
held_of Kept offered = of_greatest rank_of_rule offered
held_of Candidates offered = offered

-- what is gathered after these rules were offered
abbrev pub IsGathered : List ℕ → PlainHits → List GlobRule → Type 0
IsGathered c hits offered = AreOffers c hits.offers (held_of hits.which offered)

-- Rules are offered after others.
pub record Offers (c : List ℕ) (rules : List GlobRule) (old new : PlainHits) : Type 0 where
  -- What is asked for stays.
  pub asked : new.which ≡ old.which
  -- What was gathered of some rules becomes what is gathered of them and of these after them.
  pub more : (before : List GlobRule) → IsGathered c old before → IsGathered c new (before ++ rules)

-- The types of the hits that are held, in the order that is asked for.
pub record AreGiven (c : List ℕ) (hits : PlainHits) (given : NameHits) : Type 0 where
  -- They are the texts at the hits' offsets.
  pub texts : AreTexts c (map (λ hit. hit.1) (in_order hits.which hits.offers)) given.kinds
  -- As many are kept as have the greatest rank.
  pub count : given.kept ≡ length (best hits.offers)

-- What is held once all rules of a name were offered.
pub record HoldsRules (c : List ℕ) (which : Which) (name : List ℕ) (rules : List GlobRule) (hits : PlainHits) : Type 0 where
  -- What was asked for.
  pub asked : hits.which ≡ which
  -- In order the hits are those of the rules that are asked for.
  pub ordered : AreOffers c (in_order which hits.offers) (asked_rules which rules name)
  -- Those of the greatest rank are of the kept rules.
  pub first : AreOffers c (best hits.offers) (kept_rules rules name)
