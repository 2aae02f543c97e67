-- No case-sensitive rule is hidden, so the twins among the visible rules are those among all.
use Rattle.std.proofs.Common.{◌≡◌, Bool, true, false, cond, not, ◌&&◌, ◌||◌, List, [], ◌∷◌, refl, sym, ap, ◌∙◌}
use Rattle.std.specs.List.{filter, list_any}
use Rattle.std.proofs.lemmas.Bool.{and_parts, true≢false}
use Rattle.std.proofs.lemmas.List.Elements.{filter_agree}
use Rattle.mime_base.specs.Kept.Hidden.{is_hidden, visible}
use Rattle.mime_base.specs.Kept.Twins.{are_alike, is_twin, TwinsOfVisible, without_twins}
use Rattle.mime_base.specs.declared.database.rule.GlobRule.{GlobRule}

module _ {X : Type 0} (p q : X → Bool) where
  -- a filter of what a filter leaves
  filter-filter : (xs : List X) → filter p (filter q xs) ≡ filter (λ x. q x && p x) xs
  filter-filter [] = refl
  filter-filter (x ∷ xs) = by_cases (q x) (filter-filter xs)
    where
      by_cases : (t : Bool) → filter p (filter q xs) ≡ filter (λ y. q y && p y) xs → filter p (cond t (x ∷ filter q xs) (filter q xs))
          ≡ cond (t && p x) (x ∷ filter (λ y. q y && p y) xs) (filter (λ y. q y && p y) xs)
      by_cases true rest = ap (λ ys. cond (p x) (x ∷ ys) ys) rest
      by_cases false rest = rest

  -- what a test finds is found of what a filter leaves, where that leaves all that pass the test
  list_any-kept : ((x : X) → p x ≡ true → q x ≡ true) → (xs : List X) → list_any p (filter q xs) ≡ list_any p xs
  list_any-kept keeps [] = refl
  list_any-kept keeps (x ∷ xs) = by_cases (p x) (q x) refl refl (list_any-kept keeps xs)
    where
      by_cases : (s t : Bool) → p x ≡ s → q x ≡ t → list_any p (filter q xs) ≡ list_any p xs →
          list_any p (cond t (x ∷ filter q xs) (filter q xs)) ≡ (s || list_any p xs)
      by_cases s true is kept rest = ap (λ b. b || list_any p (filter q xs)) is ∙ ap (λ b. s || b) rest
      by_cases true false is left rest = absurd (true≢false (sym (keeps x is) ∙ left))
      by_cases false false is left rest = rest

-- a case-sensitive rule is visible
cased-visible : (rules : List GlobRule) (rule : GlobRule) → rule.cased ≡ true → not (is_hidden rules rule) ≡ true
unfolding is_hidden
cased-visible rules rule cased = rw cased refl

-- so a rule is a twin among the visible rules where it is one among all
is_twin-visible : (rules : List GlobRule) (rule : GlobRule) → is_twin (visible rules) rule ≡ is_twin rules rule
unfolding is_twin visible
is_twin-visible rules rule =
    ap (λ any. not rule.cased && any)
    (list_any-kept (λ other. other.cased && are_alike rule other) (λ other. not (is_hidden rules other))
    (λ other is. cased-visible rules other (and_parts other.cased (are_alike rule other) is).0) rules)

-- and the visible rules that are no twins are those of all rules that are neither
pub without_twins-visible : TwinsOfVisible
unfolding without_twins visible
without_twins-visible rules =
    filter_agree (λ rule. not (is_twin (visible rules) rule)) (λ rule. not (is_twin rules rule))
    (λ rule. ap not (is_twin-visible rules rule)) (visible rules)
    ∙ filter-filter (λ rule. not (is_twin rules rule)) (λ rule. not (is_hidden rules rule)) rules
