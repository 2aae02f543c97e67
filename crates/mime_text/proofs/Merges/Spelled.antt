-- The least number over the spellings of a text, one byte after another.
use Rattle.std.proofs.Common.{◌≡◌, ℕ, ◌+◌, ◌-◌, ◌<◌, ◌≤◌, nat_le, nat_lt, Less, Equal, Greater, Bool, true, false, ◌&&◌, ◌==◌, cond}
use Rattle.std.proofs.Common.{min, List, [], ◌∷◌, ◌++◌, map, refl, sym, ap, ap₂, ◌∙◌, arith, append_assoc, append-nil, length, take, drop, get_or, set}
use Rattle.std.proofs.lemmas.List.{drop_all, drop_more, drop-set-lt, set-get_or, set-set, take_all, take_more, take_more_set}
use Rattle.std.specs.List.{flat_map, list_all}
use Rattle.std.specs.Ordering.{is_lt, nat_cmp, ord_min}
use Rattle.std.proofs.lemmas.Bool.{le-ltb, lt-ltb, ltb-false, ltb-true}
use Rattle.std.proofs.lemmas.List.Elements.{All-contains}
use Rattle.std.proofs.lemmas.List.Sums.{AllPass-from_list_all}
use Rattle.mime_base.proofs.KeptLemmas.Spellings.{fold-spellings}
use Rattle.mime_base.specs.Matching.Folding.{compared}
use Rattle.mime_base.specs.Kept.Hidden.{spellings}
use Rattle.mime_text.specs.Merging.Hiding.{least}

module _ (f : List ℕ → ℕ) where
  -- it is at most 65,535
  pub least-bounded : (texts : List (List ℕ)) → least f texts ≤ 65535
  least-bounded [] = omega arith
  least-bounded (text ∷ texts) = let rest = least-bounded texts in omega arith

  -- of two lists
  least-append : (xs ys : List (List ℕ)) → least f (xs ++ ys) ≡ min (least f xs) (least f ys)
  least-append [] ys = let small = least-bounded ys in omega arith
  least-append (x ∷ xs) ys = let rest = least-append xs ys in omega arith

  -- of what g gives
  least-map : (g : List ℕ → List ℕ) (xs : List (List ℕ)) → least f (map g xs) ≡ least (λ x. f (g x)) xs
  least-map g [] = refl
  least-map g (x ∷ xs) = ap (min (f (g x))) (least-map g xs)

  -- of the same numbers
  least-agree : (g : List ℕ → ℕ) → ((text : List ℕ) → f text ≡ g text) → (xs : List (List ℕ)) → least f xs ≡ least g xs
  least-agree g same [] = refl
  least-agree g same (x ∷ xs) = ap₂ min (same x) (least-agree g same xs)

-- the least over what goes on with spellings after a front
abbrev pub least_after : (List ℕ → ℕ) → List ℕ → List ℕ → ℕ
least_after f front text = least (λ rest. f (front ++ rest)) (spellings text)

module _ (f : List ℕ → ℕ) (front : List ℕ) (b : ℕ) (text : List ℕ) where
  -- what f gives of what goes on after the front
  abbrev after : List ℕ → ℕ
  after rest = f (front ++ rest)

  -- what is spelled with one byte first
  abbrev begun : ℕ → List (List ℕ)
  begun first = map (λ rest. first ∷ rest) (spellings text)

  -- with one byte first
  least-first : (first : ℕ) → least after (begun first) ≡ least_after f (front ++ first ∷ []) text
  least-first first =
      least-map after (λ rest. first ∷ rest) (spellings text)
      ∙ least-agree (λ rest. f (front ++ first ∷ rest)) (λ rest. f ((front ++ first ∷ []) ++ rest))
      (λ rest. ap f (sym (append_assoc front (first ∷ []) rest))) (spellings text)

  -- as the only byte
  least-one : (first : ℕ) → least after (flat_map begun (first ∷ [])) ≡ least after (begun first)
  least-one first =
      let small = least-bounded after (begun first) in
      let whole : least after (begun first ++ []) ≡ min (least after (begun first)) 65535 = least-append after (begun first) [] in
      omega (arith, whole, small)

  -- a byte that is no small letter is spelled as itself
  pub least-other : (nat_le 97 b && nat_le b 122) ≡ false → least_after f front (b ∷ text) ≡ least_after f (front ++ b ∷ []) text
  least-other is =
      ap (λ t. least after (flat_map begun (cond t (b ∷ (b - 32) ∷ []) (b ∷ [])))) is ∙ least-one b ∙ least-first b

  -- a small letter also as its capital
  pub least-letter : (nat_le 97 b && nat_le b 122) ≡ true →
      least_after f front (b ∷ text) ≡ min (least_after f (front ++ b ∷ []) text) (least_after f (front ++ (b - 32) ∷ []) text)
  least-letter is =
      ap (λ t. least after (flat_map begun (cond t (b ∷ (b - 32) ∷ []) (b ∷ [])))) is
      ∙ least-append after (begun b) (flat_map begun ((b - 32) ∷ []))
      ∙ ap₂ min (least-first b) (least-one (b - 32) ∙ least-first (b - 32))

  -- where the small letter gives 0, so does the text
  pub least-none : least_after f (front ++ b ∷ []) text ≡ 0 → least_after f front (b ∷ text) ≡ 0
  least-none zero = by_cases (nat_le 97 b && nat_le b 122) refl
    where
      by_cases : (t : Bool) → (nat_le 97 b && nat_le b 122) ≡ t → least_after f front (b ∷ text) ≡ 0
      by_cases true is = let both = least-letter is in omega (arith, both, zero)
      by_cases false is = least-other is ∙ zero

-- at a place of a text
module _ (f : List ℕ → ℕ) (text : List ℕ) (place : ℕ) where
  -- at the end nothing is left to spell
  pub least-end : place ≡ length text → f text < 65536 → least_after f (take place text) (drop place text) ≡ f text
  least-end end small =
      rw (drop_all place text (omega (arith, end)), take_all place text (omega (arith, end)), append-nil) (omega (arith, small))

  module _ (inside : place < length text) where
    -- one place on
    pub least-next : least_after f (take (place + 1) text) (drop (place + 1) text)
        ≡ least_after f (take place text ++ get_or text place 0 ∷ []) (drop (place + 1) text)
    least-next = ap (λ front. least_after f front (drop (place + 1) text)) (take_more text place 0 inside)

    -- one place on, with another byte there
    pub least-set : (b : ℕ) → least_after f (take (place + 1) (set text place b)) (drop (place + 1) (set text place b))
        ≡ least_after f (take place text ++ b ∷ []) (drop (place + 1) text)
    least-set b = rw (take_more_set text place b inside, drop-set-lt (place + 1) text place b (omega arith)) refl

    -- from the byte there on
    pub least-here : least_after f (take place text) (drop place text)
        ≡ least_after f (take place text) (get_or text place 0 ∷ drop (place + 1) text)
    least-here = ap (least_after f (take place text)) (drop_more text place 0 inside)

    -- the byte that was there before is there again
    pub set-again : (b : ℕ) → set (set text place b) place (get_or text place 0) ≡ text
    set-again b = set-set text place b (get_or text place 0) ∙ set-get_or text place 0

-- the lesser of two numbers, as `min` gives it
pub ord_min-min : (a b : ℕ) → ord_min nat_cmp a b ≡ min a b
ord_min-min a b = by_cases (nat_lt b a) (b == a) refl
  where
    by_cases : (less same : Bool) → nat_lt b a ≡ less → cond (is_lt (cond less Less (cond same Equal Greater))) b a ≡ min a b
    by_cases true same is = let low = ltb-true b a is in omega (arith, low)
    by_cases false true is = let high = ltb-false b a is in omega (arith, high)
    by_cases false false is = let high = ltb-false b a is in omega (arith, high)

-- what is below the lesser is below both
below-min : (n a b : ℕ) → nat_lt n (min a b) ≡ (nat_lt n a && nat_lt n b)
below-min n a b = by_cases (nat_lt n a) (nat_lt n b) refl refl
  where
    by_cases : (s t : Bool) → nat_lt n a ≡ s → nat_lt n b ≡ t → nat_lt n (min a b) ≡ (s && t)
    by_cases true true is also =
        let first = ltb-true n a is in let second = ltb-true n b also in lt-ltb n (min a b) (omega (arith, first, second))
    by_cases true false is also = let second = ltb-false n b also in le-ltb n (min a b) (omega (arith, second))
    by_cases false t is also = let first = ltb-false n a is in le-ltb n (min a b) (omega (arith, first))

-- what is below the least is below all
pub below-least : (f : List ℕ → ℕ) (n : ℕ) → n < 65535 → (texts : List (List ℕ)) →
    nat_lt n (least f texts) ≡ list_all (λ text. nat_lt n (f text)) texts
below-least f n small [] = lt-ltb n 65535 small
below-least f n small (text ∷ texts) =
    below-min n (f text) (least f texts) ∙ ap (λ rest. nat_lt n (f text) && rest) (below-least f n small texts)

-- what isn't below a text's number isn't below that of each spelling, since the text is one
pub own-decides : (f : List ℕ → ℕ) (n : ℕ) (text : List ℕ) → nat_lt n (f text) ≡ false →
    list_all (λ other. nat_lt n (f other)) (spellings (compared false text)) ≡ false
own-decides f n text light = by_cases (list_all (λ other. nat_lt n (f other)) (spellings (compared false text))) refl
  where
    by_cases : (t : Bool) → list_all (λ other. nat_lt n (f other)) (spellings (compared false text)) ≡ t → t ≡ false
    by_cases false is = refl
    by_cases true is =
        sym (All-contains (λ other. nat_lt n (f other) ≡ true) _ text
        (AllPass-from_list_all (λ other. nat_lt n (f other)) _ is) (fold-spellings text text refl))
        ∙ light
