-- How many rules of an index are general patterns.
use Rattle.std.proofs.Common.{◌≡◌, ◌+◌, ◌/◌, ◌<◌, ℕ, suc, Bool, true, false, cond, not, List, [], ◌∷◌, ◌++◌, length, get_or, map, nat_lt, take, refl, sym, ap, ◌∙◌, arith}
use Rattle.std.specs.List.{All, filter}
use Rattle.std.proofs.lemmas.List.{length-map, take_more}
use Rattle.std.proofs.lemmas.List.Elements.{All-head, All-tail}
use Rattle.mime_base.specs.declared.database.rule.GlobRule.{GlobRule}
use Rattle.mime_base.specs.declared.kept.class.Class.{Class}
use Rattle.mime_base.specs.declared.kept.class.Class.TheVariants.{Literal, Suffix, Full}
use Rattle.mime_names.specs.Near.{general_rules, is_mostly_general}
use Rattle.mime_names.specs.Rules.{IsIndexedRule, count_general, is_text_rule, of_texts, plain}
use Rattle.mime_names.specs.declared.indexed_rule.IndexedRule.{IndexedRule}

-- one more of each
count-more : {X Y : Type 0} (x : X) (xs : List X) (y : Y) (ys : List Y) (b c : Bool) → b ≡ c → length xs ≡ length ys →
    length (cond b (x ∷ xs) xs) ≡ length (cond c (y ∷ ys) ys)
count-more x xs y ys true true same more = ap suc more
count-more x xs y ys false false same more = more
count-more x xs y ys true false same more = absurd cc
count-more x xs y ys false true same more = absurd cc

-- those that are by their class are by their pattern
pub general-given : (patterns : List ℕ) (rules : List IndexedRule) → All (IsIndexedRule patterns) rules →
    length (filter (λ rule. not (of_texts rule.class)) rules) ≡ general_rules (map (plain patterns) rules)
general-given patterns [] own = refl
general-given patterns (rule ∷ rules) own =
    let class = (All-head (IsIndexedRule patterns) rule rules own).class in
    count-more rule (filter (λ (rule : IndexedRule). not (of_texts rule.class)) rules) (plain patterns rule)
    (filter (λ (rule : GlobRule). not (is_text_rule rule)) (map (plain patterns) rules))
    (not (of_texts rule.class)) (not (is_text_rule (plain patterns rule))) (ap (λ c. not (of_texts c)) class)
    (general-given patterns rules (All-tail (IsIndexedRule patterns) rule rules own))

-- so it is said whether these are most
pub mostly-given : (patterns : List ℕ) (rules : List IndexedRule) (count general : ℕ) → All (IsIndexedRule patterns) rules →
    count ≡ length rules → general ≡ length (filter (λ rule. not (of_texts rule.class)) rules) →
    nat_lt (count / 2) general ≡ is_mostly_general (map (plain patterns) rules)
mostly-given patterns rules count general own many counted =
    ap (λ n. nat_lt (n / 2) general) (many ∙ sym (length-map rules (plain patterns)))
    ∙ ap (nat_lt (length (map (plain patterns) rules) / 2)) (counted ∙ general-given patterns rules own)

module _ {X : Type 0} (test : X → Bool) where
  -- one that is counted behind others
  count-behind : (b : Bool) (x : X) (xs ys : List X) (n : ℕ) → length xs ≡ length ys + n →
      length (cond b (x ∷ xs) xs) ≡ length (cond b (x ∷ ys) ys) + n
  count-behind true x xs ys n more = omega (arith, more)
  count-behind false x xs ys n more = more

  -- one alone
  count-alone : (b : Bool) (x : X) → length (cond b (x ∷ []) []) ≡ cond b 1 0
  count-alone true x = refl
  count-alone false x = refl

  -- how many of some pass, and of one more
  count-push : (xs : List X) (x : X) → length (filter test (xs ++ x ∷ [])) ≡ length (filter test xs) + cond (test x) 1 0
  count-push [] x = omega (arith, count-alone (test x) x)
  count-push (y ∷ ys) x = count-behind (test y) y (filter test (ys ++ x ∷ [])) (filter test ys) (cond (test x) 1 0) (count-push ys x)

-- of the rules up to a place, and of that one
pub general-next : (rules : List IndexedRule) (place : ℕ) (rule : IndexedRule) → place < length rules → rule ≡ get_or rules place rule →
    count_general (take (place + 1) rules) ≡ count_general (take place rules) + cond (not (of_texts rule.class)) 1 0
general-next rules place rule within is =
    ap count_general (take_more rules place rule within ∙ ap (λ r. take place rules ++ r ∷ []) (sym is))
    ∙ count-push (λ r. not (of_texts r.class)) (take place rules) rule

-- a rule of another class isn't counted
pub not-general : (class : Class) → (class ≡ Full → ⊥) → cond {A = ℕ} (not (of_texts class)) 1 0 ≡ 0
not-general Literal other = refl
not-general Suffix other = refl
not-general Full other = absurd (other refl)
