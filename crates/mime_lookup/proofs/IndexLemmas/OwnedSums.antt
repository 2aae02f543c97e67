-- Sums over lines by what owns each.
use Rattle.std.proofs.Common.{◌≡◌, ℕ, zero, suc, ◌+◌, ◌≤◌, inl, inr, cond, refl, ap, ◌∙◌, arith, eq-eqb}
use Rattle.std.proofs.Math.Dec.{eqb, ltb}
use Rattle.std.proofs.lemmas.Bool.Decides.{nat_tests}
use Rattle.std.proofs.lemmas.Bool.{cases_lt, cond-true}
use Rattle.mime_lookup.specs.LineBytes.{owned_sum, sum_before}

module _ (bytes owner : ℕ → ℕ) (this : ℕ) where
  -- one line more
  owned_sum-suc : (end : ℕ) →
      owned_sum bytes owner this (suc end) ≡ owned_sum bytes owner this end + cond (eqb (owner end) this) (bytes end) 0
  unfolding owned_sum
  owned_sum-suc end = refl

  -- no line adds nothing
  owned_sum-none : owned_sum bytes owner this 0 ≡ 0
  unfolding owned_sum
  owned_sum-none = refl

  -- more lines add no less
  pub owned_sum-more : (less end : ℕ) → less ≤ end → owned_sum bytes owner this less ≤ owned_sum bytes owner this end
  owned_sum-more less zero within =
      let none : less ≡ 0 = omega arith in omega (arith, ap (owned_sum bytes owner this) none)
  owned_sum-more less (suc end) within = elim (cases_lt end less) [
    | inl all ↦ (let same : less ≡ suc end = omega (arith, all) in omega (arith, ap (owned_sum bytes owner this) same))
    | inr fewer ↦ omega (arith, owned_sum-more less end fewer, owned_sum-suc end)
  ]

  -- a line of this owner adds its own
  pub owned_sum-own : (line : ℕ) → owner line ≡ this → owned_sum bytes owner this (line + 1) ≡ owned_sum bytes owner this line + bytes line
  owned_sum-own line is =
      let next : line + 1 ≡ suc line = omega arith in
      ap (owned_sum bytes owner this) next ∙ owned_sum-suc line
      ∙ ap (λ (k : ℕ). owned_sum bytes owner this line + k) (cond-true (eqb (owner line) this) (bytes line) 0 (eq-eqb (owner line) this is))

  -- one line more of those with an owner before this one
  pub sum_before-suc : (end : ℕ) →
      sum_before bytes owner this (suc end) ≡ sum_before bytes owner this end + cond (ltb (owner end) this) (bytes end) 0
  unfolding sum_before
  sum_before-suc end = refl

  -- no line adds nothing
  pub sum_before-none : sum_before bytes owner this 0 ≡ 0
  unfolding sum_before
  sum_before-none = refl

-- a number is this one, or before it, or neither
owner_next : (owner this bytes : ℕ) → cond (ltb owner (this + 1)) bytes 0 ≡ cond (ltb owner this) bytes 0 + cond (eqb owner this) bytes 0
owner_next owner this bytes = grind (arith, nat_tests)

module _ (bytes owner : ℕ → ℕ) where
  -- the next owner has those of this one besides
  pub sum_before-next : (this end : ℕ) →
      sum_before bytes owner (this + 1) end ≡ sum_before bytes owner this end + owned_sum bytes owner this end
  sum_before-next this zero =
      omega (arith, sum_before-none bytes owner this, sum_before-none bytes owner (this + 1), owned_sum-none bytes owner this)
  sum_before-next this (suc end) =
      omega (
        arith,
        sum_before-next this end,
        sum_before-suc bytes owner this end,
        sum_before-suc bytes owner (this + 1) end,
        owned_sum-suc bytes owner this end,
        owner_next (owner end) this (bytes end),
      )
