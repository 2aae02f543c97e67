-- Bounds on tests, which are paid by the places of a name and by the bytes of a pattern.
use Rattle.std.proofs.Common.{◌≡◌, ℕ, ◌+◌, ◌-◌, ◌*◌, ◌<◌, ◌≤◌, arith}

-- an attempt is paid by the next place
pub next-paid : (p start tests more next : ℕ) → tests ≤ start * p → more ≤ p → start < next → tests + more ≤ next * p
next-paid p start tests more next h k l = grind arith

-- so are places that are skipped, by a pattern that is not empty
pub passed-paid : (p start tests passed : ℕ) → tests ≤ start * p → passed ≤ passed * p → tests + passed ≤ (start + passed) * p
passed-paid p start tests passed h k = grind arith

-- the last attempt is paid by the end of the name
pub last-paid : (p n start tests more : ℕ) → tests ≤ start * p → more ≤ p → start ≤ n → tests + more ≤ p * (n + 1)
last-paid p n start tests more h k l = grind arith

-- what goes on after a star, that much of the pattern and of the name, is paid too

-- the bound on tests is kept from one star to the next
paid_on : (spare more after start passed left tests : ℕ) → tests ≤ start * (more + after + 1 + spare) →
    tests + more + after * (left + 1) ≤ (more + after + 1 + spare) * (start + passed + left + 1)
paid_on spare more after start passed left tests h = omega arith

-- with the pattern and the name cut there
pub star-paid : (p n start tests more passed after : ℕ) → tests ≤ start * p → more + after < p → start + passed ≤ n →
    tests + more + after * (n - (start + passed) + 1) ≤ p * (n + 1)
star-paid p n start tests more passed after h k l =
    let pattern : more + after + 1 + (p - (more + after + 1)) ≡ p = omega arith in
    let name : start + passed + (n - (start + passed)) ≡ n = omega arith in
    rw (pattern, name) at
    (paid_on (p - (more + after + 1)) more after start passed (n - (start + passed)) tests (rw pattern h))

-- tests of a pattern at one place are paid by any
pub once-paid : (p n tests : ℕ) → tests ≤ p → tests ≤ p * (n + 1)
once-paid p n tests h = grind arith
