-- What is kept by one number: of two lists, of one element more at either end, and over the values of a function.
use Rattle.std.proofs.Common.{◌≡◌, ℕ, ◌<◌, ◌==◌, Bool, true, false, cond, inl, inr, List, [], ◌∷◌, ◌++◌, map, max, refl}
use Rattle.std.proofs.Common.{sym, ap, ◌∙◌, arith, eq-eqb}
use Rattle.std.specs.List.{All, filter}
use Rattle.std.proofs.lemmas.Bool.{ne_eqb, cases_order}
use Rattle.std.proofs.lemmas.List.{append-nil}
use Rattle.std.proofs.lemmas.List.Elements.{filter-append, All-head, All-tail}
use Rattle.mime_base.specs.Kept.{greatest, of_greatest}

module _ {X : Type 0} (f : X → ℕ) where
  -- no element has a number above the greatest
  pub filter-above : (n : ℕ) (xs : List X) → greatest f xs < n → filter (λ x. f x == n) xs ≡ []
  filter-above n [] above = refl
  filter-above n (x ∷ xs) above =
      rw (ne_eqb (f x) n (λ e. omega arith), filter-above n xs (omega arith))

  -- the greatest number of two lists
  greatest-append : (xs ys : List X) → greatest f (xs ++ ys) ≡ max (greatest f xs) (greatest f ys)
  greatest-append [] ys = omega arith
  greatest-append (x ∷ xs) ys = (let e = greatest-append xs ys in omega arith)

  -- of two lists the one with the greater number is kept, or both
  of_greatest-front : (xs ys : List X) → greatest f ys < greatest f xs → of_greatest f (xs ++ ys) ≡ of_greatest f xs
  of_greatest-front xs ys less =
      let top : greatest f (xs ++ ys) ≡ greatest f xs = (let e = greatest-append xs ys in omega arith) in
      rw (top, filter-append, filter-above (greatest f xs) ys less, append-nil)

  -- where the greatest is after, only that part is kept
  of_greatest-back : (xs ys : List X) → greatest f xs < greatest f ys → of_greatest f (xs ++ ys) ≡ of_greatest f ys
  of_greatest-back xs ys less =
      let top : greatest f (xs ++ ys) ≡ greatest f ys = (let e = greatest-append xs ys in omega arith) in
      rw (top, filter-append, filter-above (greatest f ys) xs less)

  -- where both parts have the same greatest, of both it is kept
  of_greatest-append : (xs ys : List X) → greatest f xs ≡ greatest f ys → of_greatest f (xs ++ ys) ≡ of_greatest f xs ++ of_greatest f ys
  of_greatest-append xs ys same =
      let top : greatest f (xs ++ ys) ≡ greatest f ys = (let e = greatest-append xs ys in omega arith) in
      rw (top, filter-append, same)

  -- one element is the greatest
  pub of_greatest-one : (x : X) → of_greatest f (x ∷ []) ≡ x ∷ []
  of_greatest-one x =
      let top : f x ≡ max (f x) 0 = omega arith in
      rw (eq-eqb (f x) (max (f x) 0) top)

  -- one more at the end
  pub push-less : (xs : List X) (x : X) → f x < greatest f xs → of_greatest f (xs ++ x ∷ []) ≡ of_greatest f xs
  push-less xs x less = of_greatest-front xs (x ∷ []) (omega arith)

  -- another of the greatest is kept after the others
  pub push-same : (xs : List X) (x : X) → f x ≡ greatest f xs → of_greatest f (xs ++ x ∷ []) ≡ of_greatest f xs ++ x ∷ []
  push-same xs x same =
      of_greatest-append xs (x ∷ []) (omega arith) ∙ ap (λ end. of_greatest f xs ++ end) (of_greatest-one x)

  -- a greater one is kept alone
  pub push-more : (xs : List X) (x : X) → greatest f xs < f x → of_greatest f (xs ++ x ∷ []) ≡ x ∷ []
  push-more xs x more = of_greatest-back xs (x ∷ []) (omega arith) ∙ of_greatest-one x

  -- one more at the front
  pub cons-less : (x : X) (xs : List X) → f x < greatest f xs → of_greatest f (x ∷ xs) ≡ of_greatest f xs
  cons-less x xs less = of_greatest-back (x ∷ []) xs (omega arith)

  -- another of the greatest in front is kept before the others
  pub cons-same : (x : X) (xs : List X) → f x ≡ greatest f xs → of_greatest f (x ∷ xs) ≡ x ∷ of_greatest f xs
  cons-same x xs same =
      of_greatest-append (x ∷ []) xs (omega arith) ∙ ap (λ front. front ++ of_greatest f xs) (of_greatest-one x)

  -- a greater one in front is kept alone
  pub cons-more : (x : X) (xs : List X) → greatest f xs < f x → of_greatest f (x ∷ xs) ≡ x ∷ []
  cons-more x xs more = of_greatest-front (x ∷ []) xs (omega arith) ∙ of_greatest-one x

  -- a bound of each number is one of the greatest
  pub greatest-below : (n : ℕ) (xs : List X) → 0 < n → All (λ x. f x < n) xs → greatest f xs < n
  greatest-below n [] some all = some
  greatest-below n (x ∷ xs) some all =
      let head = All-head (λ y. f y < n) x xs all in
      let rest = greatest-below n xs some (All-tail (λ y. f y < n) x xs all) in
      omega arith

  -- some element has the greatest number
  pub of_greatest-none : (xs : List X) → of_greatest f xs ≡ [] → xs ≡ []
  of_greatest-none [] none = refl
  of_greatest-none (x ∷ xs) none = elim (cases_order (f x) (greatest f xs)) [
    | inl same ↦ absurd (cc (cons-same x xs same))
    | inr (inl less) ↦ (let no = of_greatest-none xs (sym (cons-less x xs less) ∙ none) in
        let zero : greatest f xs ≡ 0 = ap (greatest f) no in absurd (omega arith))
    | inr (inr more) ↦ absurd (cc (cons-more x xs more))
  ]

-- over the values of a function
module _ {X Y : Type 0} (f : Y → ℕ) (value : X → Y) where
  -- the greatest of values is the greatest by value
  greatest-map : (xs : List X) → greatest f (map value xs) ≡ greatest (λ x. f (value x)) xs
  greatest-map [] = refl
  greatest-map (x ∷ xs) = ap (max (f (value x))) (greatest-map xs)

  -- filtering values is filtering by value
  filter-map : (p : Y → Bool) (xs : List X) → filter p (map value xs) ≡ map value (filter (λ x. p (value x)) xs)
  filter-map p [] = refl
  filter-map p (x ∷ xs) = by_cases (p (value x)) (filter-map p xs)
    where
      by_cases : (b : Bool) → filter p (map value xs) ≡ map value (filter (λ y. p (value y)) xs) →
          cond b (value x ∷ filter p (map value xs)) (filter p (map value xs))
          ≡ map value (cond b (x ∷ filter (λ y. p (value y)) xs) (filter (λ y. p (value y)) xs))
      by_cases true rest = ap (λ ys. value x ∷ ys) rest
      by_cases false rest = rest

  -- keeping the greatest values is keeping the greatest by value
  pub of_greatest-map : (xs : List X) → of_greatest f (map value xs) ≡ map value (of_greatest (λ x. f (value x)) xs)
  of_greatest-map xs = rw greatest-map (filter-map (λ y. f y == greatest (λ x. f (value x)) xs) xs)
