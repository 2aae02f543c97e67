-- The bytes that a search for a base compares: those of the types that it meets, each of which is asked once.
use Rattle.std.proofs.Common.{◌≡◌, ℕ, suc, ◌+◌, ◌*◌, ◌<◌, ◌≤◌, List, [], ◌∷◌, length, refl, ap, ◌∙◌, arith}
use Rattle.std.proofs.Math.Nat.{mul-le-mul_right}
use Rattle.mime_lookup.specs.Ancestry.{is_one_of, unmarked}
use Rattle.mime_lookup.specs.IndexBytes.{search_bytes}
use Rattle.mime_lookup.proofs.AncestryLemmas.Marks.{unmarked-new}
use Rattle.mime_lookup.proofs.AncestryLemmas.PairSteps.{is_one_of-nil}

-- where no type is marked all pairs are left
pub unmarked-none : (pairs : List (List ℕ × List ℕ)) → unmarked pairs (is_one_of []) ≡ length pairs
unfolding unmarked
unmarked-none [] = refl
unmarked-none (pair ∷ pairs) = unmarked-new pair pairs (is_one_of []) (is_one_of-nil pair.0) ∙ ap suc (unmarked-none pairs)

-- before any is marked
pub search-start : (pairs : List (List ℕ × List ℕ)) (kinds base : ℕ) →
    search_bytes kinds (unmarked pairs (is_one_of [])) base ≡ search_bytes kinds (length pairs) base
search-start pairs kinds base = ap (λ n. search_bytes kinds n base) (unmarked-none pairs)

module _ (base queue waiting left old mid new all : ℕ) (many : queue ≡ waiting + 1)
    (before : mid + search_bytes queue left base ≤ old + all) (asked : new ≤ mid + (base + 52)) where
  -- the first that waits is asked
  search-asked : new + search_bytes waiting left base ≤ old + all
  search-asked = omega (arith, before, asked, ap (λ n. (n + left) * (base + 52)) many)

  -- and what is above it comes in its place
  pub search-more : (grown less : ℕ) → grown + less ≡ waiting + left → new + search_bytes grown less base ≤ old + all
  search-more grown less falls = omega (arith, search-asked, ap (λ n. n * (base + 52)) falls)

  -- or it is the base
  pub search-found : new + search_bytes 0 left base ≤ old + all
  search-found =
      let less : (0 + left) * (base + 52) ≤ (waiting + left) * (base + 52) = mul-le-mul_right (base + 52) (omega arith) in
      omega (arith, search-asked, less)

-- the last type for which a search is made
pub search-last : (base kinds i pairs left old mid new : ℕ) → i < kinds → mid + search_bytes 0 left base ≤ old + search_bytes i pairs base →
    new ≤ mid + search_bytes 1 left base → new ≤ old + search_bytes kinds pairs base
search-last base kinds i pairs left old mid new within before asked =
    let some : (i + 1 + pairs) * (base + 52) ≤ (kinds + pairs) * (base + 52) = mul-le-mul_right (base + 52) (omega (arith, within)) in
    omega (arith, before, asked, some)

-- fewer types than there are
pub search-all : (base kinds i pairs left old new : ℕ) → i ≤ kinds → new + search_bytes 0 left base ≤ old + search_bytes i pairs base →
    new ≤ old + search_bytes kinds pairs base
search-all base kinds i pairs left old new few bytes =
    let some : (i + pairs) * (base + 52) ≤ (kinds + pairs) * (base + 52) = mul-le-mul_right (base + 52) (omega (arith, few)) in
    omega (arith, bytes, some)
