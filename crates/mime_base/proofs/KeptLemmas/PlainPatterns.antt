-- What the class of a pattern says of its bytes: a literal has no special one, and a rule of the suffix tree is a `*` and a plain ending.
use Rattle.std.proofs.Common.{◌≡◌, ℕ, ◌<◌, Bool, true, false, cond, not, ◌&&◌, ◌==◌, List, [], ◌∷◌, length}
use Rattle.std.proofs.Common.{refl, sym, subst, arith, true≢false}
use Rattle.std.proofs.lemmas.Bool.{and_parts, eqb-true}
use Rattle.mime_base.specs.Format.Stored.{is_in_tree, is_literal_class, is_suffix_class}
use Rattle.mime_base.specs.Kept.Classes.{class_of}
use Rattle.mime_base.specs.Matching.Elements.{is_literal_text}
use Rattle.mime_base.specs.declared.database.rule.GlobRule.{GlobRule}
use Rattle.mime_base.specs.declared.kept.class.Class.TheVariants.{Full, Literal, Suffix}

-- a pattern of the class Literal has no special byte
pub literal_class : (pattern : List ℕ) → is_literal_class (class_of pattern) ≡ true → is_literal_text pattern ≡ true
unfolding class_of
literal_class [] is = refl
literal_class (b ∷ rest) is = by_cases (is_literal_text (b ∷ rest)) (b == 42 && is_literal_text rest) is
  where
    by_cases : (plain star : Bool) → is_literal_class (cond plain Literal (cond star Suffix Full)) ≡ true → plain ≡ true
    by_cases true star is = refl
    by_cases false true is = absurd (true≢false (sym is))
    by_cases false false is = absurd (true≢false (sym is))

-- one of the class Suffix is a `*` and a plain ending
suffix_class : (pattern : List ℕ) → is_suffix_class (class_of pattern) ≡ true
    → (ending : List ℕ) × (pattern ≡ 42 ∷ ending) × (is_literal_text ending ≡ true)
unfolding class_of
suffix_class [] is = absurd (true≢false (sym is))
suffix_class (b ∷ rest) is =
    let parts = and_parts (b == 42) (is_literal_text rest) (by_cases (is_literal_text (b ∷ rest)) (b == 42 && is_literal_text rest) is) in
    let star : b ≡ 42 = eqb-true b 42 parts.0 in
    (rest, rw star refl, parts.1)
  where
    by_cases : (plain star : Bool) → is_suffix_class (cond plain Literal (cond star Suffix Full)) ≡ true → star ≡ true
    by_cases true star is = absurd (true≢false (sym is))
    by_cases false true is = refl
    by_cases false false is = absurd (true≢false (sym is))

-- a rule of the tree is a `*` and a plain ending that is not empty
pub tree_pattern : (rule : GlobRule) → is_in_tree rule ≡ true
    → (ending : List ℕ) × (rule.pattern ≡ 42 ∷ ending) × (is_literal_text ending ≡ true) × (0 < length ending)
tree_pattern rule is =
    let parts = and_parts (is_suffix_class (class_of rule.pattern)) (not (length rule.pattern == 1)) is in
    let shape = suffix_class rule.pattern parts.0 in
    (shape.0, shape.1, shape.2, some shape.0 (subst (λ text. not (length text == 1) ≡ true) shape.1 parts.1))
  where
    some : (ending : List ℕ) → not (length (42 ∷ ending) == 1) ≡ true → 0 < length ending
    some [] longer = absurd (true≢false (sym longer))
    some (b ∷ rest) longer = omega arith
