-- The parts of a list with colons.
use Rattle.std.proofs.Common.{◌≡◌, ◌∙◌, ◌<◌, ◌==◌, ℕ, Bool, true, false, List, [], ◌∷◌, ◌++◌, not, ap, arith}
use Rattle.std.proofs.Common.{filter, if◌then◌else◌, length, refl}
use Rattle.std.specs.List.{list_all, onto_first, slice_split}
use Rattle.std.proofs.lemmas.Bool.Decides.{nat_tests}
use Rattle.std.proofs.lemmas.List.Elements.{filter-append}
use Rattle.clap.specs.Walk.{Text, is_empty}
use Rattle.mime_request.specs.Request.{parts}
use Rattle.mime_request.specs.Spelling.{is_path}
use Rattle.mime_request.proofs.WalkLemmas.PlainWords.{neither}

-- bytes without a colon are one part
split_none : (xs : List ℕ) → list_all (λ b. not (b == 58)) xs ≡ true → slice_split (λ b. b == 58) xs ≡ xs ∷ []
split_none [] h = refl
split_none (x ∷ xs) h =
    let both = neither (x == 58) (list_all (λ b. not (b == 58)) xs) h in
    rw (both.0, split_none xs both.1) refl

-- a positive number is not zero
nonzero : (n : ℕ) → 0 < n → (n == 0) ≡ false
nonzero n h = grind (arith, nat_tests)

-- a path without a colon is the one part of itself
pub parts-path : (path : Text) → is_path path ≡ true → parts path ≡ path ∷ []
parts-path [] h = absurd (cc)
parts-path (x ∷ xs) h = rw (split_none (x ∷ xs) h, nonzero (length (x ∷ xs)) (omega arith)) refl

-- what goes before the first of a split list leaves alone what is appended to it
onto_first-append : (v : Bool) (x y : ℕ) (xs more : List (List ℕ))
    → onto_first x ((if v then [] ∷ xs else onto_first y xs) ++ more)
    ≡ onto_first x (if v then [] ∷ xs else onto_first y xs) ++ more
onto_first-append true x y xs more = refl
onto_first-append false x y [] more = refl
onto_first-append false x y (part ∷ parts) more = refl

-- a byte before parts and more parts is a byte before these parts, and then more
onto_first-split : (x : ℕ) (xs : List ℕ) (more : List (List ℕ))
    → onto_first x (slice_split (λ b. b == 58) xs ++ more) ≡ onto_first x (slice_split (λ b. b == 58) xs) ++ more
onto_first-split x [] more = refl
onto_first-split x (y ∷ ys) more = onto_first-append (y == 58) x y (slice_split (λ b. b == 58) ys) more

-- a step of the splitting leaves more parts as they are
split_step : (v : Bool) (x : ℕ) (xs : List ℕ) (more : List (List ℕ))
    → (if v then [] ∷ (slice_split (λ b. b == 58) xs ++ more) else onto_first x (slice_split (λ b. b == 58) xs ++ more))
    ≡ (if v then [] ∷ slice_split (λ b. b == 58) xs else onto_first x (slice_split (λ b. b == 58) xs)) ++ more
split_step true x xs more = refl
split_step false x xs more = onto_first-split x xs more

-- what is split at a colon between is split on either side
split-append : (xs ys : List ℕ)
    → slice_split (λ b. b == 58) (xs ++ 58 ∷ ys) ≡ slice_split (λ b. b == 58) xs ++ slice_split (λ b. b == 58) ys
split-append [] ys = refl
split-append (x ∷ xs) ys = rw (split-append xs ys) (split_step (x == 58) x xs (slice_split (λ b. b == 58) ys))

-- the parts of a list with a colon between are those on the left and those on the right
pub parts-append : (left right : Text) → parts (left ++ 58 ∷ right) ≡ parts left ++ parts right
parts-append left right =
    ap (filter (λ part. not (is_empty part))) (split-append left right)
    ∙ filter-append (λ part. not (is_empty part)) (slice_split (λ b. b == 58) left) (slice_split (λ b. b == 58) right)
