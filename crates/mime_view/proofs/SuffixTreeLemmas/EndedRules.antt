-- The rules of a suffix tree by the paths of their endings.
use Rattle.std.proofs.Common.{◌≡◌, ℕ, suc, ◌+◌, ◌<◌, ◌==◌, ◌&&◌, Bool, true, false, not, cond, List, [], ◌∷◌, length, get_or}
use Rattle.std.proofs.Common.{drop, refl, sym, ap, subst, ◌∙◌, arith, bytes_eq}
use Rattle.std.specs.Prelude.{nat_le, reverse}
use Rattle.std.specs.List.{All}
use Rattle.std.proofs.lemmas.Bool.{and_parts, eqb-true, leb-true}
use Rattle.std.proofs.lemmas.List.{length-map, length-reverse, reverse-reverse}
use Rattle.std.proofs.lemmas.List.Elements.{All-filter, All-map, All-rest, All-same}
use Rattle.std.proofs.lemmas.List.Elements.{filter_passes}
use Rattle.std.proofs.lemmas.List.Sorted.{All-permutation, IsPermutation-reverse}
use Rattle.mime_base.specs.Database.Limits.{KeepsLimits}
use Rattle.mime_base.specs.Format.Sorted.{with_key}
use Rattle.mime_base.specs.Format.Stored.{is_in_tree, is_suffix_class, reversed_ending, stored_text, tree_rules}
use Rattle.mime_base.specs.Kept.Classes.{class_of}
use Rattle.mime_base.specs.Matching.Elements.{is_literal_text}
use Rattle.mime_base.specs.Matching.Folding.{compared, compared_byte}
use Rattle.mime_base.specs.declared.database.rule.GlobRule.{GlobRule}
use Rattle.mime_base.specs.declared.kept.class.Class.TheVariants.{Literal, Suffix, Full}
use Rattle.mime_view.proofs.HitsLemmas.SameKeys.{same_bytes}

-- a rule at the end of a path
pub record IsEnded (path : List ℕ) (rule : GlobRule) : Type 0 where
  pub key : reversed_ending rule ≡ path
  pub text : stored_text rule ≡ 42 ∷ reverse path
  pub some : 0 < length path
  pub short : length path < 255
  pub bytes : All (λ b. b < 256) path
  pub weight : rule.weight < 256

-- what is compared of a byte is a byte
compared_small : (cased : Bool) (b : ℕ) → b < 256 → compared_byte cased b < 256
compared_small true b l = l
compared_small false b l = by_test (nat_le 65 b && nat_le b 90) refl
  where
    by_test : (t : Bool) → (nat_le 65 b && nat_le b 90) ≡ t → cond t (b + 32) b < 256
    by_test true e = let parts = and_parts (nat_le 65 b) (nat_le b 90) e in omega (arith, leb-true b 90 parts.1)
    by_test false e = l

-- a star is compared as it is
star : (cased : Bool) → compared_byte cased 42 ≡ 42
star true = refl
star false = refl

-- a pattern that is longer than its star has an ending
some_rest : (rest : List ℕ) → not (suc (length rest) == 1) ≡ true → 0 < length rest
some_rest [] e = absurd cc
some_rest (x ∷ xs) e = omega arith

-- the pattern of a rule of the tree
record IsSuffix (pattern : List ℕ) : Type 0 where
  rest : List ℕ
  is : pattern ≡ 42 ∷ rest
  some : 0 < length rest

-- a pattern of the tree is a star and its ending
tree_pattern : (pattern : List ℕ) → (is_suffix_class (class_of pattern) && not (length pattern == 1)) ≡ true → IsSuffix pattern
unfolding class_of
tree_pattern [] e = absurd cc
tree_pattern (b ∷ rest) e = by_literal (is_literal_text (b ∷ rest)) e
  where
    by_star : (star : Bool) → (b == 42) ≡ star → (plain : Bool)
        → (is_suffix_class (cond (star && plain) Suffix Full) && not (length (b ∷ rest) == 1)) ≡ true → IsSuffix (b ∷ rest)
    by_star true is true e = record { rest = rest; is = ap (λ (n : ℕ). n ∷ rest) (eqb-true b 42 is); some = some_rest rest e }
    by_star true is false e = absurd cc
    by_star false is plain e = absurd cc

    by_literal : (t : Bool)
        → (is_suffix_class (cond t Literal (cond (b == 42 && is_literal_text rest) Suffix Full)) && not (length (b ∷ rest) == 1)) ≡ true
        → IsSuffix (b ∷ rest)
    by_literal true e = absurd cc
    by_literal false e = by_star (b == 42) refl (is_literal_text rest) e

-- a rule of the tree stands at the end of its own path
ended : (rule : GlobRule) → is_in_tree rule ≡ true → KeepsLimits rule → IsEnded (reversed_ending rule) rule
ended rule inside fits =
    let p = tree_pattern rule.pattern inside in
    let text : List ℕ = compared rule.cased p.rest in
    let stored : stored_text rule ≡ 42 ∷ compared rule.cased p.rest =
    ap (compared rule.cased) p.is ∙ ap (λ (n : ℕ). n ∷ compared rule.cased p.rest) (star rule.cased) in
    let key : reversed_ending rule ≡ reverse (compared rule.cased p.rest) = ap (λ (xs : List ℕ). reverse (drop 1 xs)) stored in
    let size : length (reversed_ending rule) ≡ length p.rest =
    ap (λ (xs : List ℕ). length xs) key ∙ length-reverse (compared rule.cased p.rest) ∙ length-map p.rest (compared_byte rule.cased) in
    let long : length rule.pattern ≡ suc (length p.rest) = ap (λ (xs : List ℕ). length xs) p.is in
    let below = All-rest (λ b. b < 256) 42 p.rest rule.pattern p.is fits.2 in
    let small : All (λ b. b < 256) (compared rule.cased p.rest) =
    All-map (λ b. b < 256) (compared_byte rule.cased) p.rest
    (λ k d l. compared_small rule.cased (get_or p.rest k d) (below k d l)) in
    record {
      key = refl;
      text = stored ∙ ap (λ (xs : List ℕ). 42 ∷ xs)
          (sym (reverse-reverse (compared rule.cased p.rest)) ∙ ap (λ (xs : List ℕ). reverse xs) (sym key));
      some = omega (arith, size, p.some);
      short = omega (arith, size, long, fits.1);
      bytes = All-same (λ b. b < 256) (reversed_ending rule) (reverse (compared rule.cased p.rest)) key
          (All-permutation (λ b. b < 256) (compared rule.cased p.rest) (reverse (compared rule.cased p.rest))
          (IsPermutation-reverse (compared rule.cased p.rest)) small);
      weight = fits.0;
    }

-- the rules of a path end there
pub of_path : (rules : List GlobRule) (path : List ℕ) → All KeepsLimits rules
    → All (IsEnded path) (with_key reversed_ending path (tree_rules rules))
of_path rules path fit = λ k d l.
    let inside = All-filter (λ (r : GlobRule). bytes_eq (reversed_ending r) path) (λ (r : GlobRule). is_in_tree r ≡ true) (tree_rules rules)
    (filter_passes is_in_tree rules) k d l in
    let fits = All-filter (λ (r : GlobRule). bytes_eq (reversed_ending r) path) KeepsLimits (tree_rules rules)
    (All-filter is_in_tree KeepsLimits rules fit) k d l in
    let key = filter_passes (λ (r : GlobRule). bytes_eq (reversed_ending r) path) (tree_rules rules) k d l in
    let rule : GlobRule = get_or (with_key reversed_ending path (tree_rules rules)) k d in
    subst (λ (p : List ℕ). IsEnded p (get_or (with_key reversed_ending path (tree_rules rules)) k d))
    (same_bytes (reversed_ending (get_or (with_key reversed_ending path (tree_rules rules)) k d)) path key)
    (ended (get_or (with_key reversed_ending path (tree_rules rules)) k d) inside fits)
