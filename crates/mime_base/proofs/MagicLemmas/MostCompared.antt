-- How much of the windows of a range is compared at most.
use Rattle.std.proofs.Common.{◌≡◌, ℕ, zero, suc, ◌+◌, ◌-◌, ◌*◌, ◌≤◌, Bool, true, false, cond, min, List}
use Rattle.std.proofs.Common.{length, ⊎_elim, ap, ◌∙◌, arith}
use Rattle.std.proofs.Math.Nat.{mul-le-mul_right, suc-mul}
use Rattle.std.proofs.lemmas.Bool.{cases_lt}
use Rattle.mime_base.specs.Magic.Holds.{equals_at}
use Rattle.mime_base.specs.Magic.Ranges.{compared_from}
use Rattle.mime_base.specs.Magic.{PlainLine}
use Rattle.mime_base.specs.declared.magic.host.Host.{Host}
use Rattle.mime_base.proofs.MagicLemmas.Ranges.{compared_at-inside, compared_from-none, compared_from-outside, compared_from-suc}

module _ (own : PlainLine) (host : Host) (content : List ℕ) where
  -- where the window equals the value no more is compared than where it does not
  stopped : (equal : Bool) (n : ℕ) → cond equal 0 n ≤ n
  stopped true n = omega arith
  stopped false n = omega arith

  -- each place adds at most the value, in one step
  most_inside : (at n : ℕ) → at + length own.value ≤ length content
      → compared_from own host content (suc at) n ≤ (length content + 1 - suc at) * length own.value
      → compared_from own host content at (suc n) ≤ (length content + 1 - at) * length own.value
  most_inside at n within rest =
      let places : length content + 1 - at ≡ suc (length content + 1 - suc at) = omega arith in
      let product = ap (λ (k : ℕ). k * length own.value) places ∙ suc-mul (length content + 1 - suc at) (length own.value) in
      omega (
        arith,
        product,
        rest,
        compared_from-suc own host content at n,
        compared_at-inside own host content at within,
        stopped (equals_at own host content at) (compared_from own host content (suc at) n),
      )

  -- and over all offsets
  pub most_from : (at range : ℕ) → compared_from own host content at range ≤ (length content + 1 - at) * length own.value
  most_from at zero = omega (arith, compared_from-none own host content at)
  most_from at (suc n) =
      ⊎_elim (λ beyond. omega (arith, compared_from-outside own host content at (suc n) beyond))
      (λ within. most_inside at n within (most_from (suc at) n))
      (cases_lt (length content) (at + length own.value))

  -- no more is compared than the value at each place of the content and at its end
  pub compared_from-most : (at range : ℕ) → compared_from own host content at range ≤ (length content + 1) * length own.value
  compared_from-most at range =
      let fewer = mul-le-mul_right {m = length content + 1 - at} {n = length content + 1} (length own.value) (omega arith) in
      omega (arith, most_from at range, fewer)

  -- one window more
  windows_more : (at n : ℕ) → at + length own.value ≤ length content
      → compared_from own host content (suc at) n ≤ min n (length content + 1 - (suc at + length own.value)) * length own.value
      → compared_from own host content at (suc n) ≤ min (suc n) (length content + 1 - (at + length own.value)) * length own.value
  windows_more at n within rest =
      let windows : min (suc n) (length content + 1 - (at + length own.value))
      ≡ suc (min n (length content + 1 - (suc at + length own.value))) = omega arith in
      let product = ap (λ (k : ℕ). k * length own.value) windows
      ∙ suc-mul (min n (length content + 1 - (suc at + length own.value))) (length own.value) in
      omega (
        arith,
        product,
        rest,
        compared_from-suc own host content at n,
        compared_at-inside own host content at within,
        stopped (equals_at own host content at) (compared_from own host content (suc at) n),
      )

  -- no more is compared than the value at each offset of a range at which it lies in the content
  pub compared_from-windows : (at range : ℕ) →
      compared_from own host content at range ≤ min range (length content + 1 - (at + length own.value)) * length own.value
  compared_from-windows at zero = omega (arith, compared_from-none own host content at)
  compared_from-windows at (suc n) =
      ⊎_elim (λ beyond. omega (arith, compared_from-outside own host content at (suc n) beyond))
      (λ within. windows_more at n within (compared_from-windows (suc at) n))
      (cases_lt (length content) (at + length own.value))
