-- What follows from several tests that all pass.
use Rattle.std.proofs.Common.{◌≡◌, ◌&&◌, Bool, true, false, true≢false, refl, sym}

-- each of two
pub both_left : (a b : Bool) → (a && b) ≡ true → a ≡ true
both_left true b all = refl
both_left false b all = absurd (true≢false (sym all))

-- the second of two
pub both_right : (a b : Bool) → (a && b) ≡ true → b ≡ true
both_right true b all = all
both_right false b all = absurd (true≢false (sym all))

-- each of three
pub first_of : (a b c : Bool) → (a && b && c) ≡ true → a ≡ true
first_of true b c all = refl
first_of false b c all = absurd (true≢false (sym all))

-- the second of three
pub second : (a b c : Bool) → (a && b && c) ≡ true → b ≡ true
second true true c all = refl
second true false c all = absurd (true≢false (sym all))
second false b c all = absurd (true≢false (sym all))

-- the third of three
pub third : (a b c : Bool) → (a && b && c) ≡ true → c ≡ true
third true true c all = all
third true false c all = absurd (true≢false (sym all))
third false b c all = absurd (true≢false (sym all))

-- the last of four
pub last : (a b c d : Bool) → (a && b && c && d) ≡ true → d ≡ true
last true true true d all = all
last true true false d all = absurd (true≢false (sym all))
last true false c d all = absurd (true≢false (sym all))
last false b c d all = absurd (true≢false (sym all))
