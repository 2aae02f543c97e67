-- The three lists of glob rules that a cache spells: their rules are stored as one.
use Rattle.std.proofs.Common.{◌≡◌, ℕ, Bool, true, false, List, ◌∷◌, length, map, drop, reverse, get_or, refl, sym, ap, ap₂, subst, ◌∙◌}
use Rattle.std.proofs.Common.{bytes_eq}
use Rattle.std.specs.List.{All}
use Rattle.std.proofs.lemmas.List.{reverse-reverse}
use Rattle.std.proofs.lemmas.List.Elements.{All-filter, filter_passes}
use Rattle.std.proofs.lemmas.List.Sorted.{All-permutation}
use Rattle.mime_base.specs.Cache.Bytes.{Stands}
use Rattle.mime_base.specs.Format.Rules.{GlobsAt, IsRule, LiteralsAt}
use Rattle.mime_base.specs.Format.Sorted.{with_key}
use Rattle.mime_base.specs.Format.Stored.{glob_rules, is_in_globs, is_in_literals, is_in_tree, literal_rules, reversed_ending}
use Rattle.mime_base.specs.Format.Stored.{stored_text, tree_rules, weight_and_flags}
use Rattle.mime_base.specs.Format.SuffixTree.{SuffixTreeAt}
use Rattle.mime_base.specs.Format.Tree.{TreeAt, sibling_count}
use Rattle.mime_base.specs.Kept.{FitsRank}
use Rattle.mime_base.specs.Matching.Folding.{compared, compared_byte}
use Rattle.mime_base.specs.declared.database.rule.GlobRule.{GlobRule}
use Rattle.mime_base.proofs.KeptLemmas.PlainPatterns.{tree_pattern}
use Rattle.mime_load.specs.Parts.{RecordAt}
use Rattle.mime_load.proofs.NextRecords.{same_text}
use Rattle.mime_load.proofs.SameLemmas.{same_numbers}
use Rattle.mime_view.proofs.HitsLemmas.SameKeys.{same_bytes}
use Rattle.mime_lookup.proofs.SpellingLemmas.Mapped.{maps-alike}
use Rattle.mime_lookup.proofs.SpellingLemmas.Records.{same_list, three_numbers}
use Rattle.mime_lookup.proofs.SpellingLemmas.StoredRules.{IsAlike, as_stored, same_stored}
use Rattle.mime_lookup.proofs.SpellingLemmas.Trees.{leaf_record, same_leaves}

-- what the record of a rule says of it
abbrev rule_record : GlobRule → List ℕ × (List ℕ × ℕ)
rule_record rule = (stored_text rule, leaf_record rule)

-- rules of one record are alike
alike_records : (one other : GlobRule) → rule_record one ≡ rule_record other → IsAlike one other
alike_records one other same = record {
  text = ap (λ it. it.0) same;
  kind = ap (λ it. it.1.0) same;
  flags = ap (λ it. it.1.1) same;
}

-- the record of a rule is determined by its place
same_rule : (c : List ℕ) (at : ℕ) (one other : GlobRule) → RecordAt (Stands c) (IsRule (Stands c)) at one
    → RecordAt (Stands c) (IsRule (Stands c)) at other → rule_record one ≡ rule_record other
same_rule c at one other first second =
    let size : length first.numbers ≡ length second.numbers =
    ap (λ (ns : List ℕ). length ns) first.is.2 ∙ sym (ap (λ (ns : List ℕ). length ns) second.is.2) in
    let same = three_numbers first.is.0 first.is.1 (weight_and_flags one) second.is.0 second.is.1 (weight_and_flags other)
    (sym first.is.2 ∙ same_numbers c at first.numbers second.numbers size first.cards second.cards ∙ second.is.2) in
    let text : stored_text one ≡ stored_text other =
    same_text c first.is.0 second.is.0 (stored_text one) (stored_text other) same.first first.is.3 second.is.3 in
    let kind : one.kind ≡ other.kind = same_text c first.is.1 second.is.1 one.kind other.kind same.second first.is.4 second.is.4 in
    ap₂ (λ (t : List ℕ) (r : List ℕ × ℕ). (t, r)) text (ap₂ (λ (k : List ℕ) (n : ℕ). (k, n)) kind same.third)

-- lists whose records are the same
stored_alike : (xs ys : List GlobRule) → All FitsRank xs → All FitsRank ys → map rule_record xs ≡ map rule_record ys
    → map as_stored xs ≡ map as_stored ys
stored_alike xs ys fit fits same =
    maps-alike rule_record FitsRank as_stored (λ x y fx fy e. same_stored x y fx.0 fy.0 (alike_records x y e)) xs ys fit fits same

-- a rule of the tree has a star, and then its ending
tree_text : (rule : GlobRule) → is_in_tree rule ≡ true → stored_text rule ≡ 42 ∷ reverse (reversed_ending rule)
tree_text rule is =
    let shape = tree_pattern rule is in
    whole (stored_text rule) (compared rule.cased shape.0)
    (ap (compared rule.cased) shape.1 ∙ ap (λ (b : ℕ). b ∷ compared rule.cased shape.0) (star rule.cased))
  where
    star : (cased : Bool) → compared_byte cased 42 ≡ 42
    star true = refl
    star false = refl

    whole : (text rest : List ℕ) → text ≡ 42 ∷ rest → text ≡ 42 ∷ reverse (reverse (drop 1 text))
    whole text rest is =
        is ∙ ap (λ (bytes : List ℕ). 42 ∷ bytes) (sym (reverse-reverse rest))
        ∙ sym (ap (λ (t : List ℕ). 42 ∷ reverse (reverse (drop 1 t))) is)

-- what holds of the rules of the tree with an ending
abbrev EndsAt : List ℕ → GlobRule → Type 0
EndsAt path rule = FitsRank rule × (stored_text rule ≡ 42 ∷ reverse path)

-- it holds of each
ends_at : (path : List ℕ) (rules : List GlobRule) → All FitsRank rules
    → All (EndsAt path) (with_key reversed_ending path (tree_rules rules))
ends_at path rules fits k d within =
    let rule = get_or (with_key reversed_ending path (tree_rules rules)) k d in
    let keyed = λ (rule : GlobRule). bytes_eq (reversed_ending rule) path in
    let in_tree = All-filter keyed (λ rule. is_in_tree rule ≡ true) (tree_rules rules) (filter_passes is_in_tree rules) k d within in
    let fit = All-filter keyed FitsRank (tree_rules rules) (All-filter is_in_tree FitsRank rules fits) k d within in
    let key = same_bytes (reversed_ending rule) path (filter_passes keyed (tree_rules rules) k d within) in
    (fit, tree_text rule in_tree ∙ ap (λ (text : List ℕ). 42 ∷ reverse text) key)

module _ (c : List ℕ) (at : ℕ) (rules others : List GlobRule) (fit : All FitsRank rules) (fits : All FitsRank others) where
  -- the entries of the literal list
  pub literals_once : (one : LiteralsAt (Stands c) at rules) (other : LiteralsAt (Stands c) at others)
      → map as_stored one.entries ≡ map as_stored other.entries
  literals_once one other =
      stored_alike one.entries other.entries
      (All-permutation FitsRank (literal_rules rules) one.entries one.sorted.permuted (All-filter is_in_literals FitsRank rules fit))
      (All-permutation FitsRank (literal_rules others) other.entries other.sorted.permuted (All-filter is_in_literals FitsRank others fits))
      (same_list rule_record c 12 (IsRule (Stands c)) (same_rule c) at one.entries other.entries one.stand other.stand)

  -- the rules of the glob list
  pub globs_once : GlobsAt (Stands c) at rules → GlobsAt (Stands c) at others
      → map as_stored (glob_rules rules) ≡ map as_stored (glob_rules others)
  globs_once one other =
      stored_alike (glob_rules rules) (glob_rules others) (All-filter is_in_globs FitsRank rules fit)
      (All-filter is_in_globs FitsRank others fits)
      (same_list rule_record c 12 (IsRule (Stands c)) (same_rule c) at (glob_rules rules) (glob_rules others) one other)

  -- the rules of the tree with an ending
  pub endings_once : SuffixTreeAt (Stands c) at rules → SuffixTreeAt (Stands c) at others → (path : List ℕ)
      → map as_stored (with_key reversed_ending path (tree_rules rules)) ≡ map as_stored (with_key reversed_ending path (tree_rules others))
  endings_once one other path =
      let heads = same_numbers c at _ _ refl one.head other.head in
      let counts : sibling_count one.tree ≡ sibling_count other.tree = ap (λ (ns : List ℕ). get_or ns 0 0) heads in
      let place : other.first ≡ one.first = sym (ap (λ (ns : List ℕ). get_or ns 1 0) heads) in
      let stand : TreeAt (Stands c) one.first other.tree = subst (λ (k : ℕ). TreeAt (Stands c) k other.tree) place other.stand in
      let leaves = sym (ap (map leaf_record) (one.leaves path))
      ∙ same_leaves c one.first 0 0 one.tree other.tree counts one.stand stand one.ordered other.ordered path
      ∙ ap (map leaf_record) (other.leaves path) in
      maps-alike leaf_record (EndsAt path) as_stored
      (λ x y ex ey same. same_stored x y ex.0.0 ey.0.0
      (record { text = ex.1 ∙ sym ey.1; kind = ap (λ it. it.0) same; flags = ap (λ it. it.1) same }))
      (with_key reversed_ending path (tree_rules rules)) (with_key reversed_ending path (tree_rules others)) (ends_at path rules fit)
      (ends_at path others fits) leaves
