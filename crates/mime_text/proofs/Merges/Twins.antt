-- The weights of case-sensitive patterns, by which a rule is hidden or not.
use Rattle.std.proofs.Common.{◌≡◌, ℕ, ◌+◌, ◌<◌, ◌≤◌, nat_le, nat_lt, bytes_eq, Bool, true, false, not, ◌&&◌, ◌||◌, cond}
use Rattle.std.proofs.Common.{max, List, [], ◌∷◌, refl, sym, ap, ap₂, ◌∙◌, arith, drop, length, get_or, subst, Option, Some, map}
use Rattle.std.specs.List.{filter, list_all, list_any}
use Rattle.std.proofs.lemmas.Bool.{le-ltb, leb-false, leb-true, lt-ltb, ltb-false, ltb-true}
use Rattle.std.proofs.lemmas.List.{drop_more}
use Rattle.std.proofs.lemmas.Slice.Eq.{bytes_eq-Decides}
use Rattle.mime_base.specs.Kept.Classes.{class_of}
use Rattle.mime_base.specs.Kept.Hidden.{is_by_text, is_cased_twin, is_hidden, spellings}
use Rattle.mime_base.specs.Matching.Folding.{compared, folded}
use Rattle.mime_base.specs.declared.database.rule.GlobRule.{GlobRule}
use Rattle.mime_text.specs.Merging.{picked}
use Rattle.mime_text.specs.Merging.Hiding.{cased_weight, is_outweighed, or_zero, weight_of_twin}

-- the entries whose marks are what a test gives are those that pass it
pub picked-map : {X : Type 0} (p : X → Bool) (xs : List X) → picked (map p xs) xs ≡ filter p xs
picked-map p [] = refl
picked-map p (x ∷ xs) = ap (λ ys. cond (p x) (x ∷ ys) ys) (picked-map p xs)

-- what two functions give alike
pub map-agree : {X Y : Type 0} (f g : X → Y) → ((x : X) → f x ≡ g x) → (xs : List X) → map f xs ≡ map g xs
map-agree f g same [] = refl
map-agree f g same (x ∷ xs) = ap₂ (λ y ys. y ∷ ys) (same x) (map-agree f g same xs)

-- ---- a weight more

-- a text gets a weight that is greater than its own
pub raised : (same : Bool) (weight : ℕ) (found : Option ℕ) → (same ≡ true → or_zero found < weight) →
    or_zero (cond same (Some weight) found) ≡ max (cond same weight 0) (or_zero found)
raised true weight found less = let low = less refl in omega (arith, low)
raised false weight found less = omega arith

-- and keeps one that isn't less
pub unraised : (text other : List ℕ) (weight : ℕ) (f : List ℕ → ℕ) → weight ≤ f text →
    f other ≡ max (cond (bytes_eq text other) weight 0) (f other)
unraised text other weight f high = by_cases (bytes_eq text other) refl
  where
    by_cases : (same : Bool) → bytes_eq text other ≡ same → f other ≡ max (cond same weight 0) (f other)
    by_cases true is =
        let found : weight ≤ f other = subst (λ x. weight ≤ f x) ((bytes_eq-Decides text other).0 is) high in omega (arith, found)
    by_cases false is = omega arith

-- one rule more that has its weight, and one that has none
module _ (rules : List GlobRule) (i : ℕ) (rule : GlobRule) (inside : i < length rules) (is : rule ≡ get_or rules i rule)
    (text : List ℕ) where
  -- the greatest weight from it on
  weight-here : cased_weight (drop i rules) text ≡ max (weight_of_twin text rule) (cased_weight (drop (i + 1) rules) text)
  weight-here =
      ap (λ left. cased_weight left text) (drop_more rules i rule inside)
      ∙ ap (λ (here : GlobRule). max (weight_of_twin text here) (cased_weight (drop (i + 1) rules) text)) (sym is)

  -- a case-sensitive rule
  pub weight-more : (old new : List ℕ → ℕ) → rule.cased ≡ true →
      new text ≡ max (cond (bytes_eq rule.pattern text) (rule.weight + 1) 0) (old text) →
      max (old text) (cased_weight (drop i rules) text) ≡ cased_weight rules text →
      max (new text) (cased_weight (drop (i + 1) rules) text) ≡ cased_weight rules text
  weight-more old new cased more all =
      let own : weight_of_twin text rule ≡ cond (bytes_eq rule.pattern text) (rule.weight + 1) 0 =
      ap (λ c. cond (c && bytes_eq rule.pattern text) (rule.weight + 1) 0) cased in
      let here = weight-here in
      omega (arith, own, here, more, all)

  -- any other
  pub weight-same : (old : List ℕ → ℕ) → rule.cased ≡ false →
      max (old text) (cased_weight (drop i rules) text) ≡ cased_weight rules text →
      max (old text) (cased_weight (drop (i + 1) rules) text) ≡ cased_weight rules text
  weight-same old uncased all =
      let own : weight_of_twin text rule ≡ 0 = ap (λ c. cond (c && bytes_eq rule.pattern text) (rule.weight + 1) 0) uncased in
      let here = weight-here in
      omega (arith, own, here, all)

-- ---- hidden rules

-- what is below the greater is below one of both
below-max : (n a b : ℕ) → nat_lt n (max a b) ≡ (nat_lt n a || nat_lt n b)
below-max n a b = by_cases (nat_lt n a) (nat_lt n b) refl refl
  where
    by_cases : (s t : Bool) → nat_lt n a ≡ s → nat_lt n b ≡ t → nat_lt n (max a b) ≡ (s || t)
    by_cases true t is also = let first = ltb-true n a is in lt-ltb n (max a b) (omega (arith, first))
    by_cases false true is also = let second = ltb-true n b also in lt-ltb n (max a b) (omega (arith, second))
    by_cases false false is also =
        let first = ltb-false n a is in let second = ltb-false n b also in le-ltb n (max a b) (omega (arith, first, second))

-- a weight is below one more than those that are no less
below-next : (n weight : ℕ) → nat_lt n (weight + 1) ≡ nat_le n weight
below-next n weight = by_cases (nat_le n weight) refl
  where
    by_cases : (t : Bool) → nat_le n weight ≡ t → nat_lt n (weight + 1) ≡ t
    by_cases true is = let low = leb-true n weight is in lt-ltb n (weight + 1) (omega (arith, low))
    by_cases false is = let high = leb-false n weight is in le-ltb n (weight + 1) (omega (arith, high))

-- a weight is below a text's exactly where the text has a case-sensitive twin of no less
below-cased_weight : (n : ℕ) (text : List ℕ) (rules : List GlobRule) →
    nat_lt n (cased_weight rules text) ≡ list_any (is_cased_twin n text) rules
below-cased_weight n text [] = le-ltb n 0 (omega arith)
below-cased_weight n text (rule ∷ rules) =
    below-max n (weight_of_twin text rule) (cased_weight rules text)
    ∙ ap₂ ◌||◌ (by_cases (rule.cased && bytes_eq rule.pattern text)) (below-cased_weight n text rules)
  where
    by_cases : (t : Bool) → nat_lt n (cond t (rule.weight + 1) 0) ≡ (t && nat_le n rule.weight)
    by_cases true = below-next n rule.weight
    by_cases false = le-ltb n 0 (omega arith)

-- tests that agree pass the same lists
list_all-agree : {X : Type 0} (p q : X → Bool) → ((x : X) → p x ≡ q x) → (xs : List X) → list_all p xs ≡ list_all q xs
list_all-agree p q same [] = refl
list_all-agree p q same (x ∷ xs) = ap₂ ◌&&◌ (same x) (list_all-agree p q same xs)

-- so a rule is hidden exactly where it is outweighed
pub is_outweighed-is_hidden : (rules : List GlobRule) (f : List ℕ → ℕ) → ((text : List ℕ) → f text ≡ cased_weight rules text) →
    (rule : GlobRule) → is_outweighed f rule ≡ is_hidden rules rule
unfolding is_hidden
is_outweighed-is_hidden rules f same rule =
    ap (λ all. not rule.cased && is_by_text (class_of rule.pattern) && all)
    (list_all-agree (λ text. nat_lt rule.weight (f text)) (λ text. list_any (is_cased_twin rule.weight text) rules)
    (λ text. ap (nat_lt rule.weight) (same text) ∙ below-cased_weight rule.weight text rules) (spellings (compared false rule.pattern)))

-- folding is comparing without case
pub fold-compared : (text : List ℕ) → map folded text ≡ compared false text
fold-compared [] = refl
fold-compared (b ∷ rest) = ap (λ bytes. folded b ∷ bytes) (fold-compared rest)

-- where the last test fails, whatever the others say
pub last-fails : (first second all : Bool) → all ≡ false → false ≡ (first && second && all)
last-fails false second all fails = refl
last-fails true false all fails = refl
last-fails true true all fails = sym fails

-- the last test decides where the others pass
pub last-decides : (cased by_text all : Bool) → cased ≡ false → by_text ≡ true → all ≡ (not cased && by_text && all)
last-decides cased by_text all uncased is = rw (uncased, is) refl
