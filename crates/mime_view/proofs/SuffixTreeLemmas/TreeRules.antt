-- The rules of the leaves of a suffix tree: their class, and the length of their patterns.
use Rattle.std.proofs.Common.{◌≡◌, ℕ, ◌+◌, ◌<◌, ◌==◌, not, true, true≢false, All, bytes_eq, drop}
use Rattle.std.proofs.Common.{List, [], ◌∷◌, length, get_or, refl, sym, ap, arith}
use Rattle.std.proofs.lemmas.Bool.{and_parts}
use Rattle.std.proofs.lemmas.List.{length-drop, length-map, length-reverse}
use Rattle.std.proofs.lemmas.List.Elements.{All-filter, filter_passes}
use Rattle.std.proofs.lemmas.Slice.Eq.{bytes_eq-Decides}
use Rattle.mime_base.specs.Format.Sorted.{with_key}
use Rattle.mime_base.specs.Format.Stored.{is_in_tree, is_suffix_class, reversed_ending, stored_text, tree_rules}
use Rattle.mime_base.specs.Kept.{FitsRank}
use Rattle.mime_base.specs.Kept.Classes.{class_of}
use Rattle.mime_base.specs.Matching.Folding.{compared_byte}
use Rattle.mime_base.specs.declared.database.rule.GlobRule.{GlobRule}
use Rattle.mime_base.specs.declared.kept.class.Class.{Class}
use Rattle.mime_base.specs.declared.kept.class.Class.TheVariants.{Literal, Suffix, Full}
use Rattle.mime_view.specs.SuffixTree.{IsSuffixRule}

-- the test passes the class Suffix alone
suffix_class : (class : Class) → is_suffix_class class ≡ true → class ≡ Suffix
suffix_class Literal is = absurd (true≢false (sym is))
suffix_class Suffix is = refl
suffix_class Full is = absurd (true≢false (sym is))

-- a pattern of this class is not empty
suffix_long : (pattern : List ℕ) → is_suffix_class (class_of pattern) ≡ true → 0 < length pattern
unfolding class_of
suffix_long [] is = absurd (true≢false (sym is))
suffix_long (b ∷ pattern) is = omega arith

-- a rule of the tree with a path of characters has one byte more
suffix_rule : (rule : GlobRule) (path : List ℕ) → FitsRank rule → is_in_tree rule ≡ true → reversed_ending rule ≡ path
    → IsSuffixRule (length path + 1) rule
suffix_rule rule path fits stored ends =
    let class = (and_parts (is_suffix_class (class_of rule.pattern)) (not (length rule.pattern == 1)) stored).0 in
    let long = suffix_long rule.pattern class in
    let same : length (reversed_ending rule) ≡ length path = ap (λ (text : List ℕ). length text) ends in
    let mirrored = length-reverse (drop 1 (stored_text rule)) in
    let cut = length-drop 1 (stored_text rule) in
    let stored = length-map rule.pattern (compared_byte rule.cased) in
    record {
      suffix = suffix_class (class_of rule.pattern) class;
      pattern_length = omega (arith, long, same, mirrored, cut, stored);
      light = fits.0;
    }

-- so have all rules of the leaves at the end of a path
pub suffix_rules : (rules : List GlobRule) (path : List ℕ) → All FitsRank rules
    → All (IsSuffixRule (length path + 1)) (with_key reversed_ending path (tree_rules rules))
suffix_rules rules path fits k d l =
    let here = λ (rule : GlobRule). bytes_eq (reversed_ending rule) path in
    let fit = All-filter here FitsRank (tree_rules rules) (All-filter is_in_tree FitsRank rules fits) k d l in
    let stored = All-filter here (λ rule. is_in_tree rule ≡ true) (tree_rules rules) (filter_passes is_in_tree rules) k d l in
    let ends = filter_passes here (tree_rules rules) k d l in
    suffix_rule (get_or (with_key reversed_ending path (tree_rules rules)) k d) path fit stored ((bytes_eq-Decides _ path).0 ends)
