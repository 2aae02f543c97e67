-- Items by falling numbers: their order, and that the order and the ties give the list.
use Rattle.std.proofs.Common.{◌≡◌, ℕ, ◌<◌, ◌≤◌, Bool, true, false, cond, eqb, ltb, List, [], ◌∷◌, map, ap, ap₂, ◌∙◌, refl, sym, ⊎_elim}
use Rattle.std.proofs.Common.{arith}
use Rattle.std.proofs.lemmas.Bool.{and_from, and_parts, cases_Bool, cases_order, cond-true, cond-false, cond_both, eq-eqb, eqb-true}
use Rattle.std.proofs.lemmas.Bool.{ltb-true, ltb-false, ne_eqb}
use Rattle.std.specs.List.{AllByRecursion, filter, list_all}
use Rattle.mime_base.specs.Falling.{falling, insert_falling}

module _ {A : Type 0} (number : A → ℕ) where
  -- no number after an item is above its own
  abbrev pub Falls : List A → Type 0
  Falls [] = Unit {0}
  Falls (x ∷ xs) = AllByRecursion (λ y. number y ≤ number x) xs × Falls xs

  -- whether an item has this number
  abbrev pub has : ℕ → A → Bool
  has n x = eqb (number x) n

  -- a higher bound
  pub all_below : (m n : ℕ) → m ≤ n → (xs : List A) → AllByRecursion (λ y. number y ≤ m) xs → AllByRecursion (λ y. number y ≤ n) xs
  all_below m n le [] all = tt
  all_below m n le (x ∷ xs) all = (omega (arith, all.0), all_below m n le xs all.1)

  -- an item more below a bound
  insert_below : (n : ℕ) (x : A) → number x ≤ n → (ys : List A) → AllByRecursion (λ y. number y ≤ n) ys
      → AllByRecursion (λ y. number y ≤ n) (insert_falling number x ys)
  insert_below n x le [] all = (le, tt)
  insert_below n x le (y ∷ ys) all =
      elim (ltb (number x) (number y)) as (λ t. AllByRecursion (λ z. number z ≤ n) (cond t (y ∷ insert_falling number x ys) (x ∷ y ∷ ys)))
      [ true ↦ (all.0, insert_below n x le ys all.1) | false ↦ (le, all) ]

  -- a bound of all is one in any order
  pub below_falling : (n : ℕ) (xs : List A) → AllByRecursion (λ y. number y ≤ n) xs → AllByRecursion (λ y. number y ≤ n) (falling number xs)
  below_falling n [] all = tt
  below_falling n (x ∷ xs) all = insert_below n x all.0 (falling number xs) (below_falling n xs all.1)

  -- an item more at its place
  falls_insert : (x : A) (ys : List A) → Falls ys → Falls (insert_falling number x ys)
  falls_insert x [] falls = (tt, tt)
  falls_insert x (y ∷ ys) falls =
      cond_both (ltb (number x) (number y)) (y ∷ insert_falling number x ys) (x ∷ y ∷ ys) Falls
      (λ above. (insert_below (number y) x (omega (arith, ltb-true _ _ above)) ys falls.0, falls_insert x ys falls.1))
      (λ not_above. let le : number y ≤ number x = ltb-false _ _ not_above in ((le, all_below (number y) (number x) le ys falls.0), falls))

  -- the items fall
  pub falls_falling : (xs : List A) → Falls (falling number xs)
  falls_falling [] = tt
  falls_falling (x ∷ xs) = falls_insert x (falling number xs) (falls_falling xs)

  -- items of one number stay in their order, an item more
  filter_insert : (n : ℕ) (x : A) (ys : List A) → filter (has n) (insert_falling number x ys) ≡ filter (has n) (x ∷ ys)
  filter_insert n x [] = refl
  filter_insert n x (y ∷ ys) =
      let rest = filter (has n) ys in
      cond_both (ltb (number x) (number y)) (y ∷ insert_falling number x ys) (x ∷ y ∷ ys)
      (λ zs. filter (has n) zs ≡ filter (has n) (x ∷ y ∷ ys))
      (λ above. ⊎_elim
      (λ (this : has n x ≡ true).
      let other : has n y ≡ false = ne_eqb (number y) n
      (λ e. omega (arith, e, eqb-true (number x) n this, ltb-true (number x) (number y) above)) in
      cond-false _ _ _ other ∙ filter_insert n x ys ∙ cond-true _ _ _ this
      ∙ sym (cond-true _ _ _ this ∙ ap (λ zs. x ∷ zs) (cond-false (has n y) (y ∷ rest) rest other)))
      (λ (differs : has n x ≡ false).
      ap (λ zs. cond (has n y) (y ∷ zs) zs) (filter_insert n x ys ∙ cond-false (has n x) (x ∷ rest) rest differs)
      ∙ sym (cond-false _ _ _ differs))
      (cases_Bool (has n x)))
      (λ not_above. refl)

  -- items of one number stay in their order
  pub filter_falling : (n : ℕ) (xs : List A) → filter (has n) (falling number xs) ≡ filter (has n) xs
  filter_falling n [] = refl
  filter_falling n (x ∷ xs) = filter_insert n x (falling number xs) ∙ ap (λ zs. cond (has n x) (x ∷ zs) zs) (filter_falling n xs)

  -- no item has a number above the bound
  pub none_above : (m n : ℕ) → m < n → (xs : List A) → AllByRecursion (λ y. number y ≤ m) xs → filter (has n) xs ≡ []
  none_above m n lt [] all = refl
  none_above m n lt (x ∷ xs) all =
      cond-false _ _ _ (ne_eqb (number x) n (λ e. omega (arith, e, all.0))) ∙ none_above m n lt xs all.1

  -- the first item has its own number
  keeps_first : (x : A) (xs : List A) → filter (has (number x)) (x ∷ xs) ≡ x ∷ filter (has (number x)) xs
  keeps_first x xs = cond-true _ _ _ (eq-eqb (number x) (number x) refl)

  -- a list that falls is given by its items of each number
  pub same_order : (xs ys : List A) → Falls xs → Falls ys → ((x : A) → filter (has (number x)) xs ≡ filter (has (number x)) ys) → xs ≡ ys
  same_order [] [] down falls same = refl
  same_order [] (y ∷ ys) down falls same = let e : [] ≡ y ∷ filter (has (number y)) ys = same y ∙ keeps_first y ys in cc
  same_order (x ∷ xs) [] down falls same = let e : [] ≡ x ∷ filter (has (number x)) xs = sym (same x) ∙ keeps_first x xs in cc
  same_order (x ∷ xs) (y ∷ ys) down falls same = ⊎_elim
      (λ (level : number x ≡ number y).
      let heads : x ∷ filter (has (number x)) xs ≡ y ∷ filter (has (number x)) ys =
      sym (keeps_first x xs) ∙ same x ∙ cond-true _ _ _ (eq-eqb (number y) (number x) (sym level)) in
      let first : x ≡ y = cc in
      ap₂ ◌∷◌ first (same_order xs ys down.1 falls.1 (λ z. tails z level)))
      (λ other. ⊎_elim
      (λ (lower : number x < number y).
      let e : [] ≡ y ∷ filter (has (number y)) ys =
      sym (none_above (number x) (number y) lower (x ∷ xs) (omega arith, down.0)) ∙ same y ∙ keeps_first y ys in cc)
      (λ (higher : number y < number x).
      let e : [] ≡ x ∷ filter (has (number x)) xs =
      sym (none_above (number y) (number x) higher (y ∷ ys) (omega arith, falls.0)) ∙ sym (same x) ∙ keeps_first x xs in cc)
      other)
      (cases_order (number x) (number y))
    where
      tails : (z : A) → number x ≡ number y → filter (has (number z)) xs ≡ filter (has (number z)) ys
      tails z level = ⊎_elim
          (λ (this : has (number z) x ≡ true).
          let both : x ∷ filter (has (number z)) xs ≡ y ∷ filter (has (number z)) ys =
          sym (cond-true _ _ _ this) ∙ same z ∙ cond-true _ _ _ (ap (λ n. eqb n (number z)) (sym level) ∙ this) in cc)
          (λ (differs : has (number z) x ≡ false).
          sym (cond-false _ _ _ differs) ∙ same z ∙ cond-false _ _ _ (ap (λ n. eqb n (number z)) (sym level) ∙ differs))
          (cases_Bool (has (number z) x))

  -- ---- what holds of each item

  -- what holds of all and of one holds of all with that one
  list_all-insert : (p : A → Bool) (x : A) (ys : List A) → p x ≡ true → list_all p ys ≡ true
      → list_all p (insert_falling number x ys) ≡ true
  list_all-insert p x [] this all = and_from _ _ this refl
  list_all-insert p x (y ∷ ys) this all =
      let parts = and_parts (p y) (list_all p ys) all in
      elim (ltb (number x) (number y)) as (λ t. list_all p (cond t (y ∷ insert_falling number x ys) (x ∷ y ∷ ys)) ≡ true)
      [ true ↦ and_from _ _ parts.0 (list_all-insert p x ys this parts.1) | false ↦ and_from _ _ this all ]

  -- it holds in any order
  pub list_all-falling : (p : A → Bool) (xs : List A) → list_all p xs ≡ true → list_all p (falling number xs) ≡ true
  list_all-falling p [] all = refl
  list_all-falling p (x ∷ xs) all =
      let parts = and_parts (p x) (list_all p xs) all in
      list_all-insert p x (falling number xs) parts.0 (list_all-falling p xs parts.1)

-- ---- plain items

module _ {X Y : Type 0} (f : X → Y) (number : Y → ℕ) where
  -- inserting by a value's number is inserting the value
  insert_falling-map : (x : X) (ys : List X) → map f (insert_falling (λ z. number (f z)) x ys) ≡ insert_falling number (f x) (map f ys)
  insert_falling-map x [] = refl
  insert_falling-map x (y ∷ ys) =
      elim (ltb (number (f x)) (number (f y)))
      as (λ t. map f (cond t (y ∷ insert_falling (λ z. number (f z)) x ys) (x ∷ y ∷ ys))
      ≡ cond t (f y ∷ insert_falling number (f x) (map f ys)) (f x ∷ f y ∷ map f ys))
      [ true ↦ ap (λ zs. f y ∷ zs) (insert_falling-map x ys) | false ↦ refl ]

  -- items by the numbers of what f gives
  pub falling-map : (xs : List X) → map f (falling (λ z. number (f z)) xs) ≡ falling number (map f xs)
  falling-map [] = refl
  falling-map (x ∷ xs) = insert_falling-map x (falling (λ z. number (f z)) xs) ∙ ap (insert_falling number (f x)) (falling-map xs)
