-- What is answered of the rules that match: the types of the greatest rank, or of all by falling rank.
use Rattle.std.proofs.Common.{◌≡◌, ℕ, ◌+◌, ◌<◌, Bool, true, false, cond, not, ◌&&◌, List, [], ◌∷◌, ◌++◌, length, take, get_or, map}
use Rattle.std.proofs.Common.{refl, sym, ap, ◌∙◌, arith}
use Rattle.std.specs.List.{All, filter}
use Rattle.std.proofs.lemmas.List.{length-map, map-append}
use Rattle.std.proofs.lemmas.List.Elements.{All-filter, All-map, All-weaker}
use Rattle.std.proofs.lemmas.Simd.{map-map}
use denote.Bor.{Bor}
use Rattle.mime_base.specs.Kept.{FitsRank, best, hits, kept_rules, of_greatest, rank_of_rule}
use Rattle.mime_base.specs.Matching.Matches.{rule_matches}
use Rattle.mime_base.specs.declared.database.rule.GlobRule.{GlobRule}
use Rattle.mime_base.proofs.KeptLemmas.{of_greatest-rank_of_rule}
use Rattle.mime_base.proofs.KeptLemmas.Greatest.{of_greatest-map, of_greatest-none}
use Rattle.mime_names.specs.Index.{rules_of_index, texts_of}
use Rattle.mime_names.specs.Rules.{IsIndexedRule, every, hits_of, is_match, is_text_rule, offer_of, others, plain, texts}
use Rattle.mime_names.specs.declared.indexed_rule.IndexedRule.{IndexedRule}
use Rattle.mime_names.proofs.NearLemmas.{hit_more}
use Rattle.mime_names.proofs.RankLemmas.{greatest-texts}

-- the offers of one hit more
pub offers-hit : (patterns : List ℕ) (part : IndexedRule → Bool) (rules : List IndexedRule) (name : List ℕ) (place from : ℕ) (rule : IndexedRule) →
    place < length rules → rule ≡ get_or rules place rule → part rule ≡ true → is_match patterns name rule ≡ true →
    hits_of patterns part (take place rules) name ≡ hits_of patterns part (take from rules) name →
    map (offer_of patterns) (hits_of patterns part (take (place + 1) rules) name) ≡ map (offer_of patterns) (hits_of patterns part (take from rules) name) ++ offer_of patterns rule ∷ []
offers-hit patterns part rules name place from rule within is own matches skipped =
    ap (map (offer_of patterns)) (hit_more patterns part rules name place rule within is own matches ∙ ap (λ front. front ++ rule ∷ []) skipped)
    ∙ map-append (offer_of patterns) (hits_of patterns part (take from rules) name) (rule ∷ [])

-- the types of the best offers
pub best-kinds : (patterns : List ℕ) (found : List IndexedRule) →
    map (λ offer. offer.1) (best (map (offer_of patterns) found)) ≡ map (λ rule. rule.kind) (of_greatest (λ rule. rank_of_rule (plain patterns rule)) found)
best-kinds patterns found =
    ap (map (λ (offer : ℕ × Bor (List ℕ)). offer.1)) (of_greatest-map (λ offer. offer.0) (offer_of patterns) found)
    ∙ map-map (λ (offer : ℕ × Bor (List ℕ)). offer.1) (offer_of patterns) (of_greatest (λ rule. rank_of_rule (plain patterns rule)) found)

-- where a type is kept a rule was found
pub kept-some : (patterns : List ℕ) (found : List IndexedRule) (kinds : List (Bor (List ℕ))) →
    kinds ≡ map (λ rule. rule.kind) (of_greatest (λ rule. rank_of_rule (plain patterns rule)) found) → 0 < length kinds → 0 < length found
kept-some patterns [] kinds is some = absurd (omega (arith, some, ap length is))
kept-some patterns (rule ∷ found) kinds is some = omega arith

-- a list without a length is empty
no-length : {X : Type 0} (xs : List X) → length xs ≡ 0 → xs ≡ []
no-length [] none = refl
no-length (x ∷ xs) none = absurd (omega arith)

-- where none is kept none was found
pub kept-none : (patterns : List ℕ) (found : List IndexedRule) (kinds : List (Bor (List ℕ))) →
    kinds ≡ map (λ rule. rule.kind) (of_greatest (λ rule. rank_of_rule (plain patterns rule)) found) → length kinds ≡ 0 → found ≡ []
kept-none patterns found kinds is none =
    let rank = λ (rule : IndexedRule). rank_of_rule (plain patterns rule) in
    of_greatest-none rank found (no-length (of_greatest rank found)
    (sym (length-map (of_greatest rank found) (λ (rule : IndexedRule). rule.kind)) ∙ sym (ap length is) ∙ none))

-- filtering values is filtering by value
pub filter-map : {X Y : Type 0} (value : X → Y) (p : Y → Bool) (xs : List X) →
    filter p (map value xs) ≡ map value (filter (λ x. p (value x)) xs)
filter-map value p [] = refl
filter-map {X} {Y} value p (x ∷ xs) = by_cases (p (value x)) (filter-map value p xs)
  where
    by_cases : (b : Bool) → filter p (map value xs) ≡ map value (filter (λ y. p (value y)) xs) →
        cond b (value x ∷ filter p (map value xs)) (filter p (map value xs))
        ≡ map value (cond b (x ∷ filter (λ y. p (value y)) xs) (filter (λ y. p (value y)) xs))
    by_cases true rest = ap (λ ys. value x ∷ ys) rest
    by_cases false rest = rest

-- two filters are one
pub filter-both : {X : Type 0} (p q : X → Bool) (xs : List X) → filter p (filter q xs) ≡ filter (λ x. p x && q x) xs
filter-both p q [] = refl
filter-both {X} p q (x ∷ xs) = by_cases (p x) (q x) refl (filter-both p q xs)
  where
    by_cases : (a b : Bool) → p x ≡ a → filter p (filter q xs) ≡ filter (λ y. p y && q y) xs →
        filter p (cond b (x ∷ filter q xs) (filter q xs)) ≡ cond (a && b) (x ∷ filter (λ y. p y && q y) xs) (filter (λ y. p y && q y) xs)
    by_cases true true is rest = rw is (ap (λ ys. x ∷ ys) rest)
    by_cases true false is rest = rest
    by_cases false true is rest = rw is rest
    by_cases false false is rest = rest

-- where none passes a test all pass its contrary
filter-none : {X : Type 0} (p q : X → Bool) (xs : List X) → filter (λ x. p x && q x) xs ≡ [] →
    filter (λ x. not (p x) && q x) xs ≡ filter q xs
filter-none p q [] none = refl
filter-none {X} p q (x ∷ xs) none = by_cases (p x) (q x) (filter-none p q xs) none
  where
    by_cases : (a b : Bool) → (filter (λ y. p y && q y) xs ≡ [] → filter (λ y. not (p y) && q y) xs ≡ filter q xs) →
        cond (a && b) (x ∷ filter (λ y. p y && q y) xs) (filter (λ y. p y && q y) xs) ≡ [] →
        cond (not a && b) (x ∷ filter (λ y. not (p y) && q y) xs) (filter (λ y. not (p y) && q y) xs) ≡ cond b (x ∷ filter q xs) (filter q xs)
    by_cases true true again none = absurd cc
    by_cases true false again none = again none
    by_cases false true again none = ap (λ ys. x ∷ ys) (again none)
    by_cases false false again none = again none

module _ (patterns : List ℕ) (rules : List IndexedRule) (name : List ℕ) where
  -- the hits of the plain rules
  hits-plain : hits (rules_of_index patterns rules) name ≡ map (plain patterns) (hits_of patterns (every patterns) rules name)
  hits-plain = filter-map (plain patterns) (λ rule. rule_matches rule.pattern rule.cased name) rules

  module _ (own : All (IsIndexedRule patterns) rules) where
    -- every hit has its room in a rank
    fits : All FitsRank (hits (rules_of_index patterns rules) name)
    fits =
        All-filter (λ rule. rule_matches rule.pattern rule.cased name) FitsRank (rules_of_index patterns rules)
        (All-map FitsRank (plain patterns) rules (All-weaker (IsIndexedRule patterns) (λ rule. FitsRank (plain patterns rule)) (λ rule is. is.fits) rules own))

    -- the types of the greatest rank of some rules
    kinds-plain : (found : List IndexedRule) → texts_of (map (λ rule. rule.kind) (of_greatest (λ rule. rank_of_rule (plain patterns rule)) found))
        ≡ map (λ rule. rule.kind) (of_greatest rank_of_rule (map (plain patterns) found))
    kinds-plain found =
        let rank = λ (rule : IndexedRule). rank_of_rule (plain patterns rule) in
        map-map (λ (kind : Bor (List ℕ)). kind.now) (λ (rule : IndexedRule). rule.kind) (of_greatest rank found)
        ∙ sym (map-map (λ (rule : GlobRule). rule.kind) (plain patterns) (of_greatest rank found))
        ∙ ap (map (λ (rule : GlobRule). rule.kind)) (sym (of_greatest-map rank_of_rule (plain patterns) found))

    -- the hits that are texts
    pub texts-plain :
        filter is_text_rule (hits (rules_of_index patterns rules) name) ≡ map (plain patterns) (hits_of patterns (texts patterns) rules name)
    texts-plain =
        ap (filter is_text_rule) hits-plain
        ∙ filter-map (plain patterns) is_text_rule (hits_of patterns (every patterns) rules name)
        ∙ ap (map (plain patterns)) (filter-both (texts patterns) (is_match patterns name) rules)

    -- where a text matches, the types of the greatest rank among texts are those of the kept rules
    pub kept-texts : 0 < length (hits_of patterns (texts patterns) rules name) →
        texts_of (map (λ rule. rule.kind) (of_greatest (λ rule. rank_of_rule (plain patterns rule)) (hits_of patterns (texts patterns) rules name)))
        ≡ map (λ rule. rule.kind) (kept_rules (rules_of_index patterns rules) name)
    unfolding kept_rules
    kept-texts some =
        let found = hits (rules_of_index patterns rules) name in
        kinds-plain (hits_of patterns (texts patterns) rules name)
        ∙ ap (map (λ (rule : GlobRule). rule.kind))
        (ap (of_greatest rank_of_rule) (sym texts-plain)
        ∙ sym (greatest-texts found fits (omega (arith, some, ap length texts-plain, length-map (hits_of patterns (texts patterns) rules name) (plain patterns))))
        ∙ of_greatest-rank_of_rule found fits)

    -- where none does, those among all others are
    pub kept-others : hits_of patterns (texts patterns) rules name ≡ [] →
        texts_of (map (λ rule. rule.kind) (of_greatest (λ rule. rank_of_rule (plain patterns rule)) (hits_of patterns (others patterns) rules name)))
        ≡ map (λ rule. rule.kind) (kept_rules (rules_of_index patterns rules) name)
    unfolding kept_rules
    kept-others none =
        kinds-plain (hits_of patterns (others patterns) rules name)
        ∙ ap (map (λ (rule : GlobRule). rule.kind))
        (ap (λ found. of_greatest rank_of_rule (map (plain patterns) found)) (filter-none (texts patterns) (is_match patterns name) rules none)
        ∙ ap (of_greatest rank_of_rule) (sym hits-plain)
        ∙ of_greatest-rank_of_rule (hits (rules_of_index patterns rules) name) fits)
