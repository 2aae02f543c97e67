-- Rules that are gathered in steps: all whose keys pass are there, no others are, and none is there twice.
use Rattle.std.proofs.Common.{◌⊎◌, inl, inr, ℕ, List, get_or}
use Rattle.mime_names.specs.Chains.{AddsPlaces, GathersPlaces}

module _ (keys : List ℕ) where
  -- all are there after two steps
  pub gathers-both : (P Q R : ℕ → Type 0) (a b c : List ℕ) → ((key : ℕ) → R key → P key ⊎ Q key) →
      GathersPlaces P keys a b → GathersPlaces Q keys b c → GathersPlaces R keys a c
  gathers-both P Q R a b c splits first second = record {
    kept = λ p has. second.kept p (first.kept p has);
    all = λ p below passes. elim (splits (get_or keys p 0) passes) [
      | inl one ↦ second.kept p (first.all p below one)
      | inr two ↦ second.all p below two
    ];
  }

  -- and after one
  pub gathers-weaker : (P R : ℕ → Type 0) (a b : List ℕ) → ((key : ℕ) → R key → P key) → GathersPlaces P keys a b → GathersPlaces R keys a b
  gathers-weaker P R a b weaker first = record {
    kept = first.kept;
    all = λ p below passes. first.all p below (weaker (get_or keys p 0) passes);
  }

  -- no others are added in two steps, and none twice, where no key passes both
  pub adds-both : (P Q R : ℕ → Type 0) (a b c : List ℕ) → ((key : ℕ) → P key → R key) → ((key : ℕ) → Q key → R key) →
      ((key : ℕ) → P key → Q key → ⊥) → AddsPlaces P keys a b → AddsPlaces Q keys b c → AddsPlaces R keys a c
  adds-both P Q R a b c left right apart first second = record {
    only = λ p has. elim (second.only p has) [
      | inl before ↦ elim (first.only p before) [
        | inl old ↦ inl old
        | inr one ↦ inr (left (get_or keys p 0) one)
      ]
      | inr two ↦ inr (right (get_or keys p 0) two)
    ];
    below = λ old. second.below (first.below old);
    once = λ none distinct. second.once
        (λ p has two. elim (first.only p has) [
          | inl old ↦ none p old (right (get_or keys p 0) two)
          | inr one ↦ apart (get_or keys p 0) one two
        ])
        (first.once (λ p has one. none p has (left (get_or keys p 0) one)) distinct);
  }

  -- nor in one
  pub adds-stronger : (P R : ℕ → Type 0) (a b : List ℕ) → ((key : ℕ) → P key → R key) → AddsPlaces P keys a b → AddsPlaces R keys a b
  adds-stronger P R a b stronger first = record {
    only = λ p has. elim (first.only p has) [
      | inl old ↦ inl old
      | inr one ↦ inr (stronger (get_or keys p 0) one)
    ];
    below = first.below;
    once = λ none distinct. first.once (λ p has one. none p has (stronger (get_or keys p 0) one)) distinct;
  }

  -- nor where nothing is
  pub adds-none : (R : ℕ → Type 0) (a : List ℕ) → AddsPlaces R keys a a
  adds-none R a = record { only = λ p has. inl has; below = λ old. old; once = λ none distinct. distinct }
