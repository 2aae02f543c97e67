-- Places that are gathered and sorted.
use Rattle.std.proofs.Common.{◌≡◌, inl, inr, ℕ, ◌+◌, ◌≤◌, List, [], length, get_or, ap, arith}
use Rattle.std.proofs.lemmas.List.{get_or_default}
use Rattle.std.proofs.lemmas.List.Elements.{Contains-get_or}
use Rattle.std.proofs.lemmas.List.Sorted.{Contains-permutation, IsPermutation-sym}
use Rattle.std.specs.List.{Contains}
use Rattle.std.specs.List.Sorted.{IsNonDecreasing, IsPermutation}
use Rattle.mime_names.specs.Chains.{AddsPlaces, AreBelow, GathersPlaces}
use Rattle.mime_names.specs.Places.{AreSortedPlaces, CountsPlaces}

-- no place is below nothing
none : {xs : List ℕ} {n : ℕ} → xs ≡ [] → AreBelow n xs
none is = λ i inside. absurd (omega (arith, inside, ap length is))

-- no place is in nothing
nothing : {xs : List ℕ} → xs ≡ [] → (p : ℕ) → Contains xs p → ⊥
nothing is p has = omega (arith, has.1, ap length is)

-- what was gathered from nothing on is the same in order
pub sorted_places : (Passes : ℕ → Type 0) (keys start found sorted : List ℕ) → start ≡ [] → GathersPlaces Passes keys start found →
    AddsPlaces Passes keys start found →
    IsPermutation found sorted → IsNonDecreasing sorted → AreSortedPlaces Passes keys sorted
sorted_places Passes keys start found sorted empty gathered added moved rise = record {
  rise = rise;
  below = λ i inside.
      let has = Contains-permutation sorted found (get_or sorted i 0) (IsPermutation-sym found sorted moved) (Contains-get_or sorted i 0 inside) in
      omega (arith, get_or_default found has.0 (get_or sorted i 0) 0 has.1, has.2, added.below (none empty) has.0 has.1);
  all = λ p low asks. Contains-permutation found sorted p moved (gathered.all p low asks);
  only = λ p has. elim (added.only p (Contains-permutation sorted found p (IsPermutation-sym found sorted moved) has)) [
    | inl old ↦ absurd (nothing empty p old)
    | inr asks ↦ asks
  ];
}

-- for each place that was added to nothing one node is counted
pub counts_places : (Passes : ℕ → Type 0) (keys start found : List ℕ) (old more new : ℕ) → start ≡ [] → AddsPlaces Passes keys start found →
    new + length start ≤ old + length found + more → CountsPlaces Passes keys old more new
counts_places Passes keys start found old more new empty added steps = record {
  places = found;
  below = added.below (none empty);
  once = added.once (λ p has. absurd (nothing empty p has)) (λ i j d order inside. absurd (omega (arith, inside, ap length empty)));
  only = λ p has. elim (added.only p has) [
    | inl old ↦ absurd (nothing empty p old)
    | inr asks ↦ asks
  ];
  steps = omega (arith, steps, ap length empty);
}
