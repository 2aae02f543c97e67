-- Rules of the three lists one after another: each list has its own.
use Rattle.std.proofs.Common.{◌≡◌, ℕ, ◌+◌, ◌==◌, Bool, true, false, not, ◌&&◌, List, [], ◌∷◌, ◌++◌, length, map, ap, refl, sym, subst, ◌∙◌, true≢false}
use Rattle.std.specs.Prelude.{filter}
use Rattle.std.specs.List.{All}
use Rattle.std.proofs.lemmas.List.{append-nil}
use Rattle.std.proofs.lemmas.List.Elements.{All-append, All-head, All-tail, All-weaker, filter-append}
use Rattle.mime_base.specs.Cache.Bytes.{Stands}
use Rattle.mime_base.specs.Format.Records.{ListAt}
use Rattle.mime_base.specs.Format.Rules.{IsRule}
use Rattle.mime_base.specs.Format.Sorted.{IsSortedByText, with_key}
use Rattle.mime_base.specs.Format.Stored.{glob_rules, is_in_globs, is_in_literals, is_in_tree, is_literal_class, is_suffix_class, literal_rules, reversed_ending, stored_text, tree_rules}
use Rattle.mime_base.specs.Format.SuffixTree.{front_count, tree_size}
use Rattle.mime_base.specs.Kept.Classes.{class_of}
use Rattle.mime_base.specs.declared.database.rule.GlobRule.{GlobRule}
use Rattle.mime_base.specs.declared.kept.class.Class.{Class}
use Rattle.mime_base.specs.declared.kept.class.Class.TheVariants.{Literal, Suffix, Full}
use Rattle.mime_base.specs.Database.Limits.{KeepsLimits}
use Rattle.mime_load.specs.Parts.{IsGlobList, IsLiteralList, IsTreeList}
use Rattle.mime_load.specs.Whole.{AreRules}
use Rattle.mime_load.proofs.RuleLists.{all_kept}

-- no rule of some is kept
none_kept : (p : GlobRule → Bool) (rules : List GlobRule) → All (λ rule. p rule ≡ false) rules → filter p rules ≡ []
none_kept p [] none = refl
none_kept p (rule ∷ rules) none =
    rw (All-head (λ rule. p rule ≡ false) rule rules none) (none_kept p rules (All-tail (λ rule. p rule ≡ false) rule rules none))

-- of one class only
literal_alone : (class : Class) (star : Bool) → is_literal_class class ≡ true → (is_suffix_class class && not star) ≡ false
literal_alone Literal star is = refl
literal_alone Suffix star is = absurd (true≢false (sym is))
literal_alone Full star is = absurd (true≢false (sym is))

-- the same of the tree
suffix_alone : (class : Class) (star : Bool) → (is_suffix_class class && not star) ≡ true → is_literal_class class ≡ false
suffix_alone Literal star is = absurd (true≢false (sym is))
suffix_alone Suffix star is = refl
suffix_alone Full star is = absurd (true≢false (sym is))

-- what is in one of two is not outside both
first_in : (s t : Bool) → s ≡ true → (not s && not t) ≡ false
first_in true t is = refl
first_in false t is = absurd (true≢false (sym is))

-- nor is it in the second
second_in : (s t : Bool) → t ≡ true → (not s && not t) ≡ false
second_in true t is = refl
second_in false true is = refl
second_in false false is = absurd (true≢false (sym is))

-- what is outside both is in neither
in_neither : (s t : Bool) → (not s && not t) ≡ true → (s ≡ false) × (t ≡ false)
in_neither true t is = absurd (true≢false (sym is))
in_neither false true is = absurd (true≢false (sym is))
in_neither false false is = (refl, refl)

-- three lists of which one is kept
module _ (p : GlobRule → Bool) (first leaves last : List GlobRule) where
  -- the rules of all three
  parts : filter p (first ++ (leaves ++ last)) ≡ filter p first ++ (filter p leaves ++ filter p last)
  parts = filter-append p first (leaves ++ last) ∙ ap (λ (rules : List GlobRule). filter p first ++ rules) (filter-append p leaves last)

  -- of which the first are kept
  first_kept : All (λ rule. p rule ≡ true) first → All (λ rule. p rule ≡ false) leaves → All (λ rule. p rule ≡ false) last
      → filter p (first ++ (leaves ++ last)) ≡ first
  first_kept all none nor =
      parts ∙ rw (all_kept p first all, none_kept p leaves none, none_kept p last nor) (append-nil first)

  -- of which the next are kept
  leaves_kept : All (λ rule. p rule ≡ false) first → All (λ rule. p rule ≡ true) leaves → All (λ rule. p rule ≡ false) last
      → filter p (first ++ (leaves ++ last)) ≡ leaves
  leaves_kept none all nor =
      parts ∙ rw (none_kept p first none, all_kept p leaves all, none_kept p last nor) (append-nil leaves)

  -- of which the last are kept
  last_kept : All (λ rule. p rule ≡ false) first → All (λ rule. p rule ≡ false) leaves → All (λ rule. p rule ≡ true) last
      → filter p (first ++ (leaves ++ last)) ≡ last
  last_kept none nor all =
      parts ∙ rw (none_kept p first none, none_kept p leaves nor, all_kept p last all) refl

module _ (c : List ℕ) (literals tree globs : ℕ) (first leaves last all : List GlobRule) (is : all ≡ first ++ (leaves ++ last))
    (l : IsLiteralList c literals first) (t : IsTreeList c tree leaves) (g : IsGlobList c globs last) where
  -- the literal rules are the first
  literal_ones : literal_rules all ≡ first
  literal_ones = ap literal_rules is ∙ first_kept is_in_literals first leaves last l.literals
      (All-weaker (λ rule. is_in_tree rule ≡ true) (λ rule. is_in_literals rule ≡ false)
      (λ rule one. suffix_alone (class_of rule.pattern) (length rule.pattern == 1) one) leaves t.leaves)
      (All-weaker (λ rule. is_in_globs rule ≡ true) (λ rule. is_in_literals rule ≡ false)
      (λ rule one. (in_neither (is_in_literals rule) (is_in_tree rule) one).0) last g.globs)

  -- the leaves' are the next
  tree_ones : tree_rules all ≡ leaves
  tree_ones = ap tree_rules is ∙ leaves_kept is_in_tree first leaves last
      (All-weaker (λ rule. is_in_literals rule ≡ true) (λ rule. is_in_tree rule ≡ false)
      (λ rule one. literal_alone (class_of rule.pattern) (length rule.pattern == 1) one) first l.literals)
      t.leaves
      (All-weaker (λ rule. is_in_globs rule ≡ true) (λ rule. is_in_tree rule ≡ false)
      (λ rule one. (in_neither (is_in_literals rule) (is_in_tree rule) one).1) last g.globs)

  -- the others are the last
  glob_ones : glob_rules all ≡ last
  glob_ones = ap glob_rules is ∙ last_kept is_in_globs first leaves last
      (All-weaker (λ rule. is_in_literals rule ≡ true) (λ rule. is_in_globs rule ≡ false)
      (λ rule one. first_in (is_in_literals rule) (is_in_tree rule) one) first l.literals)
      (All-weaker (λ rule. is_in_tree rule ≡ true) (λ rule. is_in_globs rule ≡ false)
      (λ rule one. second_in (is_in_literals rule) (is_in_tree rule) one) leaves t.leaves)
      g.globs

  -- each list alone has its own too
  same_literals : literal_rules first ≡ literal_rules all
  same_literals = all_kept is_in_literals first l.literals ∙ sym literal_ones

  -- so do the leaves
  same_leaves : tree_rules leaves ≡ tree_rules all
  same_leaves = all_kept is_in_tree leaves t.leaves ∙ sym tree_ones

  -- and the globs
  same_globs : glob_rules last ≡ glob_rules all
  same_globs = all_kept is_in_globs last g.globs ∙ sym glob_ones

  -- so they stand
  pub rules_stand : AreRules c literals tree globs all
  rules_stand = record {
    literals_stand = record {
      entries = l.stand.entries;
      sorted = subst (λ (rules : List GlobRule). IsSortedByText stored_text rules l.stand.entries) same_literals l.stand.sorted;
      stand = l.stand.stand;
    };
    tree_stands = record {
      tree = t.stand.tree;
      first = t.stand.first;
      head = t.stand.head;
      stand = t.stand.stand;
      ordered = t.stand.ordered;
      leaves = λ path. t.stand.leaves path ∙ ap (with_key reversed_ending path) same_leaves;
      size = t.stand.size ∙ same_size;
    };
    globs_stand = subst (ListAt (Stands c) 12 (IsRule (Stands c)) globs) same_globs g.stand;
  }
    where
      same_size : tree_size leaves ≡ tree_size all
      same_size = ap (λ (rules : List GlobRule). length rules + front_count (map reversed_ending rules)) same_leaves

  -- and each keeps its limits
  pub rules_limits : All KeepsLimits all
  rules_limits =
      rw is (All-append KeepsLimits first (leaves ++ last) l.limits (All-append KeepsLimits leaves last t.limits g.limits))
