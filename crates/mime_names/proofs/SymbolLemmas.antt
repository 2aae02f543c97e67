-- That a table has the symbol of each byte, by computing each.
use Rattle.std.proofs.Common.{◌≡◌, ℕ, zero, suc, ◌<◌, Bool, true, ◌&&◌, ◌==◌, List, get_or, arith, inl, inr}
use Rattle.std.proofs.lemmas.Bool.{and_parts, cases_eq, eqb-true}
use Rattle.mime_names.specs.Tree.{symbol}

-- whether the first entries of a table are the symbols of their places
unfoldable pub agree_below : List ℕ → ℕ → Bool
agree_below table zero = true
agree_below table (suc n) = (get_or table n 0 == symbol n) && agree_below table n

-- then each of them is
agree_at : (table : List ℕ) (n : ℕ) → agree_below table n ≡ true → (b : ℕ) → b < n → get_or table b 0 ≡ symbol b
unfolding agree_below
agree_at table zero is b below = absurd (omega arith)
agree_at table (suc n) is b below =
    let both = and_parts (get_or table n 0 == symbol n) (agree_below table n) is in
    elim (cases_eq b n) [ inl same ↦ rw same (eqb-true (get_or table n 0) (symbol n) both.0) | inr other ↦ agree_at table n both.1 b (omega arith) ]

-- a table whose 256 entries are has the symbol of each byte
pub are-symbols : (table : List ℕ) → agree_below table 256 ≡ true → (b : ℕ) → b < 256 → get_or table b 0 ≡ symbol b
are-symbols table is b below = agree_at table 256 is b below
