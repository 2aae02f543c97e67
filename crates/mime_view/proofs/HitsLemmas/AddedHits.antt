-- Which hits are added where one is offered, and by one step after another.
use Rattle.std.proofs.Common.{◌≡◌, ℕ, List, [], ◌∷◌, ◌++◌, inl, inr, ⊎_elim, sym, subst, arith}
use Rattle.std.specs.List.{Contains}
use Rattle.std.specs.Prelude.{◌⊎◌, map}
use Rattle.std.proofs.lemmas.List.{length-append, length-map, map-append}
use Rattle.std.proofs.lemmas.List.Elements.{Contains-push_cases}
use Rattle.mime_base.proofs.KeptLemmas.Offers.{items-ranked}
use Rattle.mime_view.specs.Gathered.{AddsAt, TakesHit, places_of}

-- hits of one rank
abbrev pub ranked : ℕ → List ℕ → List (ℕ × ℕ)
ranked rank kinds = map (λ kind. (rank, kind)) kinds

-- none is among no hits
none_among : (place : ℕ) → Contains [] place → ⊥
none_among place held = omega (arith, held.1)

-- one place more
pushed : (places : List ℕ) (kind place : ℕ) → Contains (places ++ kind ∷ []) place → Contains places place ⊎ (place ≡ kind)
pushed places kind place held = ⊎_elim inl (λ is. inr (sym is)) (Contains-push_cases places kind place held)

module _ (kind : ℕ) where
  -- a hit that is not held
  pub takes_none : (offers : List (ℕ × ℕ)) → TakesHit kind offers offers
  takes_none offers = record { few = omega arith; added = λ place held. inl held }

  -- one that is held after the others
  pub takes_after : (rank : ℕ) (offers : List (ℕ × ℕ)) → TakesHit kind offers (offers ++ (rank, kind) ∷ [])
  takes_after rank offers = record {
    few = omega (arith, length-append offers ((rank, kind) ∷ []));
    added = λ place held.
        let all : places_of (offers ++ (rank, kind) ∷ []) ≡ places_of offers ++ kind ∷ [] =
        map-append (λ (offer : ℕ × ℕ). offer.1) offers ((rank, kind) ∷ []) in
        pushed (places_of offers) kind place (subst (λ (places : List ℕ). Contains places place) all held);
  }

  -- one that is held after those of its rank
  pub takes_ranked : (was rank : ℕ) (kinds : List ℕ) → TakesHit kind (ranked was kinds) (ranked rank (kinds ++ kind ∷ []))
  takes_ranked was rank kinds = record {
    few =
        omega (
          arith,
          length-map {B = ℕ × ℕ} kinds (λ (k : ℕ). (was, k)),
          length-map {B = ℕ × ℕ} (kinds ++ kind ∷ []) (λ (k : ℕ). (rank, k)),
          length-append kinds (kind ∷ []),
        );
    added = λ place held.
        let now : Contains (kinds ++ kind ∷ []) place =
        subst (λ (places : List ℕ). Contains places place) (items-ranked rank (kinds ++ kind ∷ [])) held in
        ⊎_elim (λ (before : Contains kinds place). inl (subst (λ (places : List ℕ). Contains places place) (sym (items-ranked was kinds)) before)) inr
        (pushed kinds kind place now);
  }

  -- one that is held alone
  pub takes_alone : (rank : ℕ) (offers : List (ℕ × ℕ)) → TakesHit kind offers (ranked rank (kind ∷ []))
  takes_alone rank offers = record {
    few = omega arith;
    added = λ place held. ⊎_elim (λ none. absurd (none_among place none)) inr (pushed [] kind place held);
  }

  -- where there is no memory for it, all may be dropped
  pub takes_nothing : (offers : List (ℕ × ℕ)) → TakesHit kind offers []
  takes_nothing offers = record { few = omega arith; added = λ place held. absurd (none_among place held) }

-- the places of one step and of another
pub adds_then : (Is : ℕ → Type 0) (old mid new : List (ℕ × ℕ)) → AddsAt Is old mid → AddsAt Is mid new → AddsAt Is old new
adds_then Is old mid new first second = λ place held. ⊎_elim (first place) inr (second place held)

-- more places may be meant
pub adds_within : (Is Other : ℕ → Type 0) (old new : List (ℕ × ℕ)) → ((place : ℕ) → Is place → Other place) → AddsAt Is old new
    → AddsAt Other old new
adds_within Is Other old new wider adds = λ place held. ⊎_elim inl (λ is. inr (wider place is)) (adds place held)
