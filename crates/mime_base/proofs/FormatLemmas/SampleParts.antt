-- What stands in the cache that was made by hand: numbers, texts, and lists of one or none.
use Rattle.std.proofs.Common.{◌≡◌, ℕ, zero, suc, ◌+◌, true, List, [], ◌∷◌, ◌++◌, length, take, drop, refl, arith, lit<}
use Rattle.std.specs.List.{list_all}
use Rattle.std.specs.List.Sorted.{IsPermutation, IsSortedBy}
use Rattle.std.specs.Prelude.{nat_lt}
use Rattle.std.proofs.lemmas.Bool.{and_parts, ltb-true}
use Rattle.mime_base.specs.Cache.Bytes.{AreCards, Stands, cards}
use Rattle.mime_base.specs.Format.Pairs.{PairsAt}
use Rattle.mime_base.specs.Format.Records.{CardsAt, TextAt}
use Rattle.mime_base.specs.Format.Sample.{sample}
use Rattle.mime_base.specs.Format.Sorted.{text_lt}
use Rattle.mime_base.specs.Cache.Texts.{HasNoZero, ended}

-- bytes stand where the list has them
pub stands : (at : ℕ) (bytes : List ℕ) → sample ≡ take at sample ++ (bytes ++ drop (at + length bytes) sample)
    → length (take at sample) ≡ at → Stands sample at bytes
stands at bytes split place =
    record { front = take at sample; back = drop (at + length bytes) sample; place = place; split = split }

-- numbers below 2 ^ 32, by a test that computes
are_cards : (numbers : List ℕ) → list_all (λ n. nat_lt n 4294967296) numbers ≡ true → AreCards numbers
are_cards [] all i = lit< tt
are_cards (n ∷ numbers) all zero = ltb-true n 4294967296 (and_parts _ _ all).0
are_cards (n ∷ numbers) all (suc i) = are_cards numbers (and_parts _ _ all).1 i

-- numbers of the sample, found by computing
pub cards_at : (at : ℕ) (numbers : List ℕ) → list_all (λ n. nat_lt n 4294967296) numbers ≡ true
    → sample ≡ take at sample ++ (cards numbers ++ drop (at + length (cards numbers)) sample)
    → length (take at sample) ≡ at → CardsAt (Stands sample) at numbers
cards_at at numbers all split place =
    record { small = are_cards numbers all; stand = stands at (cards numbers) split place }

-- the test of a text's bytes is right
no_zero : (text : List ℕ) → list_all (λ b. nat_lt 0 b) text ≡ true → HasNoZero text
no_zero [] all = tt
no_zero (b ∷ text) all = (λ e. absurd (omega (arith, ltb-true 0 b (and_parts _ _ all).0, e)), no_zero text (and_parts _ _ all).1)

-- a text stands where the list has it and its zero
pub text_at : (at : ℕ) (text : List ℕ) → list_all (λ b. nat_lt 0 b) text ≡ true → nat_lt (length text) 256 ≡ true
    → sample ≡ take at sample ++ (ended text ++ drop (at + length (ended text)) sample)
    → length (take at sample) ≡ at → TextAt (Stands sample) at text
text_at at text all short split place = record {
  is_text = record { no_zero = no_zero text all; short = ltb-true (length text) 256 short };
  stand = stands at (ended text) split place;
}

-- a list of one is sorted
pub one_is_sorted : {X : Type 0} (key : X → List ℕ) (x : X) → IsSortedBy (λ left right. text_lt (key left) (key right)) (x ∷ [])
one_is_sorted key x k d low within = absurd (omega (arith, within))

-- so is the empty list
pub none_is_sorted : {X : Type 0} (key : X → List ℕ) → IsSortedBy (λ left right. text_lt (key left) (key right)) []
none_is_sorted key k d low within = absurd (omega (arith, within))

-- the first text of a pair
abbrev pub first_text : List ℕ × List ℕ → List ℕ
first_text pair = pair.0

-- a list as it was is a permutation
pub unmoved : {X : Type 0} (xs : List X) → IsPermutation xs xs
unmoved xs = record { moves = []; below = tt; is = refl }

-- a list of no pairs
pub no_icons : (at : ℕ) → CardsAt (Stands sample) at (0 ∷ []) → PairsAt (Stands sample) at []
no_icons at count = record {
  entries = [];
  sorted = record { permuted = unmoved _; in_order = none_is_sorted first_text; ties = λ text. refl };
  stand = record { count = count; records = tt };
}
