-- The rank of a rule puts the four preferences into one number: the hits of the greatest rank are those that are
-- preferred. Below it: what is kept by one number, by two, and of offers that come one by one.
pub mod Greatest
pub mod Both
pub mod Offers
pub mod Spellings
pub mod ByText
pub mod Lesser
pub mod Hidden
pub mod Twins
pub mod Candidates
pub mod PlainPatterns
use Rattle.std.proofs.Common.{◌≡◌, ℕ, ◌+◌, ◌*◌, ◌<◌, ◌≤◌, Bool, true, false, cond, ◌&&◌, ◌||◌, ◌==◌, nat_lt, List, []}
use Rattle.std.proofs.Common.{◌∷◌, length, get_or, max, refl, sym, ap, ◌∙◌, arith}
use Rattle.std.specs.List.{All, filter}
use Rattle.std.proofs.lemmas.Bool.{and_parts, leb-true, true≢false}
use Rattle.std.proofs.lemmas.List.Elements.{All-weaker, filter_agree}
use Rattle.mime_base.specs.Kept.{greatest, of_greatest, earliness, any_cased, of_first_class, heaviest}
use Rattle.mime_base.specs.Kept.Classes.{class_of}
use Rattle.mime_base.specs.Kept.{longest, cased_if_any, preferred, rank, FitsRank, GreatestRankIsPreferred}
use Rattle.mime_base.specs.Names.{is_pattern}
use Rattle.mime_base.specs.declared.database.rule.GlobRule.{GlobRule}
use Rattle.mime_base.proofs.KeptLemmas.Both.{of_greatest-of_greatest}

-- the length of a pattern fits its place
pub is_pattern-short : (text : List ℕ) → is_pattern text ≡ true → length text ≤ 255
unfolding is_pattern
is_pattern-short text is = leb-true (length text) 255 (middle (nat_lt 0 (length text)) _ _ is)
  where
    middle : (a b c : Bool) → (a && b && c) ≡ true → b ≡ true
    middle a b c all = (and_parts a b (and_parts (a && b) c all).0).1

-- 1 with the flag, 0 without
abbrev flag : GlobRule → ℕ
flag rule = cond rule.cased 1 0

-- the greatest flag tells whether any rule is case-sensitive
greatest-flag : (rules : List GlobRule) → greatest flag rules ≡ cond (any_cased rules) 1 0
greatest-flag [] = refl
greatest-flag (rule ∷ rules) = rw (greatest-flag rules) (by_cases rule.cased (any_cased rules))
  where
    by_cases : (a b : Bool) → max (cond a 1 0) (cond b 1 0) ≡ cond (a || b) 1 0
    by_cases true true = refl
    by_cases true false = refl
    by_cases false true = refl
    by_cases false false = refl

-- without one all are kept
none_cased : (rules : List GlobRule) → any_cased rules ≡ false → filter (λ rule. flag rule == 0) rules ≡ rules
none_cased [] none = refl
none_cased (rule ∷ rules) none = by_cases rule.cased refl (none_cased rules)
  where
    by_cases : (b : Bool) → rule.cased ≡ b → (any_cased rules ≡ false → filter (λ r. flag r == 0) rules ≡ rules) →
        filter (λ r. flag r == 0) (rule ∷ rules) ≡ rule ∷ rules
    by_cases true is rest = absurd (true≢false (sym (ap (λ b. b || any_cased rules) is) ∙ none))
    by_cases false is rest =
        let test : (flag rule == 0) ≡ true = ap (λ b. cond b 1 0 == 0) is in
        rw test (ap (λ others. rule ∷ others) (rest (sym (ap (λ b. b || any_cased rules) is) ∙ none)))

-- the last preference is one by a number too
cased_if_any-is : (rules : List GlobRule) → cased_if_any rules ≡ of_greatest flag rules
cased_if_any-is rules = by_cases (any_cased rules) refl
  where
    by_flag : (b : Bool) → b ≡ (cond b 1 0 == 1)
    by_flag true = refl
    by_flag false = refl

    by_cases : (any : Bool) → any_cased rules ≡ any → cased_if_any rules ≡ of_greatest flag rules
    by_cases true is =
        rw (greatest-flag rules, is) (filter_agree (λ rule. rule.cased) (λ rule. flag rule == 1) (λ rule. by_flag rule.cased) rules)
    by_cases false is = rw (greatest-flag rules, is) (sym (none_cased rules is))

-- the number of the first preference
abbrev by_class : GlobRule → ℕ
by_class rule = earliness (class_of rule.pattern)

-- the four as one number, where weights are below `heavy` and lengths below `long`
module _ (heavy long : ℕ) where
  -- the first two preferences
  abbrev by_weight : GlobRule → ℕ
  by_weight rule = by_class rule * heavy + rule.weight

  -- the first three
  abbrev by_length : GlobRule → ℕ
  by_length rule = by_weight rule * long + length rule.pattern

  -- all four
  abbrev pub by_case : GlobRule → ℕ
  by_case rule = by_length rule * 2 + flag rule

  -- one preference after another
  pub of_greatest-by_case : (rules : List GlobRule) → All (λ r. r.weight < heavy) rules → All (λ r. length r.pattern < long) rules →
      of_greatest by_case rules ≡ preferred rules
  unfolding preferred
  of_greatest-by_case rules light short =
      sym (cased_if_any-is (longest (heaviest (of_first_class rules)))
      ∙ ap (λ kept. of_greatest flag (longest kept)) (of_greatest-of_greatest heavy by_class (λ r. r.weight) rules light)
      ∙ ap (of_greatest flag) (of_greatest-of_greatest long by_weight (λ r. length r.pattern) rules short)
      ∙ of_greatest-of_greatest 2 by_length flag rules (λ k d h. below_two (get_or rules k d).cased))
    where
      below_two : (b : Bool) → cond b 1 0 < 2
      below_two true = omega arith
      below_two false = omega arith

-- a rank is that number where weights are below 256 and lengths below 65,536
pub of_greatest-rank_of_rule : GreatestRankIsPreferred
unfolding rank
of_greatest-rank_of_rule rules ranked =
    of_greatest-by_case 256 65536 rules (All-weaker FitsRank (λ r. r.weight < 256) (λ r is. is.0) rules ranked)
    (All-weaker FitsRank (λ r. length r.pattern < 65536) (λ r is. is.1) rules ranked)
