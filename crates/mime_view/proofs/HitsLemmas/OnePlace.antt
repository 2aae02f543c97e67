-- The rules of one rank all stand in one place: a list, or the tree, and there one case.
use Rattle.std.proofs.Common.{◌≡◌, ℕ, Bool, true, false, cond, not, ◌&&◌, ◌==◌, List, [], ◌∷◌, ◌++◌, length}
use Rattle.std.proofs.Common.{append-nil, refl, sym, ap, ap₂, ◌∙◌}
use Rattle.std.specs.List.{All, filter}
use Rattle.std.proofs.lemmas.List.Elements.{All-head, All-weaker}
use Rattle.mime_base.specs.Format.Stored.{is_literal_class, is_suffix_class}
use Rattle.mime_base.specs.Kept.Classes.{class_of}
use Rattle.mime_base.specs.declared.database.rule.GlobRule.{GlobRule}
use Rattle.mime_base.specs.declared.kept.class.Class.{Class}
use Rattle.mime_base.specs.declared.kept.class.Class.TheVariants.{Full, Literal, Suffix}
use Rattle.mime_view.specs.Hits.{takes_rule}
use Rattle.mime_view.specs.declared.hits.Case.{Case}
use Rattle.mime_view.specs.declared.hits.Case.TheVariants.{Both, Exact, Folded}
use Rattle.mime_view.proofs.HitsLemmas.FilterSteps.{filter-alike}
use Rattle.mime_view.proofs.HitsLemmas.RankParts.{Ranked}
use Rattle.mime_view.proofs.HitsLemmas.SameRanks.{same_rank}

-- a test of the class, the length and the case
abbrev pub by_shape : (Class → ℕ → Bool → Bool) → GlobRule → Bool
by_shape test rule = test (class_of rule.pattern) (length rule.pattern) rule.cased

-- of rules of one rank it passes all or none
ranked-alike : (n : ℕ) (first : GlobRule) (rest : List GlobRule) → All (Ranked n) (first ∷ rest) → (test : Class → ℕ → Bool → Bool)
    → filter (by_shape test) (first ∷ rest) ≡ cond (by_shape test first) (first ∷ rest) []
ranked-alike n first rest ranked test =
    let head = All-head (Ranked n) first rest ranked in
    filter-alike (by_shape test) (by_shape test first) (first ∷ rest)
    (All-weaker (Ranked n) (λ rule. by_shape test rule ≡ by_shape test first) (λ rule is.
    (let same = same_rank rule first is.0 head.0 (is.1 ∙ sym head.1) in
    ap (λ class. test class (length rule.pattern) rule.cased) same.0
    ∙ ap (λ size. test (class_of first.pattern) size rule.cased) same.1
    ∙ ap (λ cased. test (class_of first.pattern) (length first.pattern) cased) same.2)) (first ∷ rest) ranked)

-- the tests of the places: the literal list and the tree, as a search takes their rules, and the glob list
abbrev pub in_literals : Case → Class → ℕ → Bool → Bool
in_literals case class size cased = is_literal_class class && takes_rule case cased

-- that of the tree
abbrev pub in_tree : Case → Class → ℕ → Bool → Bool
in_tree case class size cased = is_suffix_class class && not (size == 1) && takes_rule case cased

-- that of the glob list
abbrev pub in_globs : Class → ℕ → Bool → Bool
in_globs class size cased = not (is_literal_class class) && not (is_suffix_class class && not (size == 1))

-- whatever the class, the length and the case, one place takes them all

-- with one search and one walk for both cases
one_place-once : (class : Class) (alone cased : Bool) (xs : List GlobRule) →
    cond (is_literal_class class && true) xs []
    ++ (cond (is_suffix_class class && not alone && true) xs []
    ++ cond (not (is_literal_class class) && not (is_suffix_class class && not alone)) xs [])
    ≡ xs
one_place-once Literal alone cased xs = append-nil xs
one_place-once Suffix true cased xs = refl
one_place-once Suffix false cased xs = append-nil xs
one_place-once Full alone cased xs = refl

-- with one each for either case
one_place-twice : (class : Class) (alone cased : Bool) (xs : List GlobRule) →
    cond (is_literal_class class && cased) xs []
    ++ (cond (is_literal_class class && not cased) xs []
    ++ (cond (is_suffix_class class && not alone && cased) xs []
    ++ (cond (is_suffix_class class && not alone && not cased) xs []
    ++ cond (not (is_literal_class class) && not (is_suffix_class class && not alone)) xs [])))
    ≡ xs
one_place-twice Literal alone true xs = append-nil xs
one_place-twice Literal alone false xs = append-nil xs
one_place-twice Suffix true true xs = refl
one_place-twice Suffix true false xs = refl
one_place-twice Suffix false true xs = append-nil xs
one_place-twice Suffix false false xs = append-nil xs
one_place-twice Full alone cased xs = refl

-- so the places that one search and one walk serve give all rules of a rank
pub places-once : (n : ℕ) (rules : List GlobRule) → All (Ranked n) rules →
    filter (by_shape (in_literals Both)) rules ++ (filter (by_shape (in_tree Both)) rules ++ filter (by_shape in_globs) rules) ≡ rules
places-once n [] ranked = refl
places-once n (first ∷ rest) ranked =
    let alike = ranked-alike n first rest ranked in
    ap₂ ◌++◌ (alike (in_literals Both)) (ap₂ ◌++◌ (alike (in_tree Both)) (alike in_globs))
    ∙ one_place-once (class_of first.pattern) (length first.pattern == 1) first.cased (first ∷ rest)

-- and so do those of two searches and two walks
pub places-twice : (n : ℕ) (rules : List GlobRule) → All (Ranked n) rules →
    filter (by_shape (in_literals Exact)) rules ++ (filter (by_shape (in_literals Folded)) rules
    ++ (filter (by_shape (in_tree Exact)) rules ++ (filter (by_shape (in_tree Folded)) rules
    ++ filter (by_shape in_globs) rules))) ≡ rules
places-twice n [] ranked = refl
places-twice n (first ∷ rest) ranked =
    let alike = ranked-alike n first rest ranked in
    ap₂ ◌++◌ (alike (in_literals Exact)) (ap₂ ◌++◌ (alike (in_literals Folded)) (ap₂ ◌++◌ (alike (in_tree Exact))
    (ap₂ ◌++◌ (alike (in_tree Folded)) (alike in_globs))))
    ∙ one_place-twice (class_of first.pattern) (length first.pattern == 1) first.cased (first ∷ rest)
