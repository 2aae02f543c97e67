-- A tree that was walked is the suffix tree of its rules.
use Rattle.std.proofs.Common.{◌≡◌, ℕ, ◌+◌, ◌*◌, true, List, [], ◌∷◌, length, map, ap, sym, subst, ◌∙◌, arith}
use Rattle.std.specs.Prelude.{reverse}
use Rattle.std.specs.List.{All}
use Rattle.std.proofs.lemmas.List.{reverse-reverse}
use Rattle.mime_base.specs.Cache.Bytes.{Stands}
use Rattle.mime_base.specs.Format.Records.{CardsAt}
use Rattle.mime_base.specs.Format.Sorted.{with_key}
use Rattle.mime_base.specs.Format.Stored.{is_in_tree, reversed_ending, tree_rules}
use Rattle.mime_base.specs.Format.SuffixTree.{front_count, tree_size}
use Rattle.mime_base.specs.Format.Tree.{InOrder, node_count, rules_in}
use Rattle.mime_base.specs.declared.database.rule.GlobRule.{GlobRule}
use Rattle.mime_base.proofs.FormatLemmas.TreeLeaves.{leaves, leaves-at, length-leaves, rules-leaves}
use Rattle.mime_load.specs.Parts.{IsTreeList}
use Rattle.mime_load.specs.Walks.{Walked}
use Rattle.mime_load.proofs.EndedPaths.{HasPath, ended_limits, ended_paths, ended_rules, endings_of, keys_of, paths_of}
use Rattle.mime_load.proofs.RuleLists.{all_kept}
use Rattle.mime_load.proofs.TreeFronts.{nodes_counted}
use Rattle.mime_load.proofs.TreePaths.{paths}

-- a tree of the rules that it holds
module _ (c : List ℕ) (at first count : ℕ) (after rules : List GlobRule) (old new : ℕ) (cards : CardsAt (Stands c) at (count ∷ first ∷ []))
    (w : Walked c first count [] 1 [] after old new) (is : rules ≡ reverse after) where
  -- they are the tree's
  are : rules ≡ rules_in w.tree
  are = is ∙ ap (λ (xs : List GlobRule). reverse xs) w.rules ∙ reverse-reverse (rules_in w.tree)

  -- the tree is in order
  order : InOrder 0 w.tree
  order = w.ordered 0 (omega arith)

  -- each belongs to it
  all : All (λ rule. is_in_tree rule ≡ true) rules
  all = rw are (ended_rules [] w.tree w.ended)

  -- all are kept
  kept : tree_rules rules ≡ rules_in w.tree
  kept = all_kept is_in_tree rules all ∙ are

  -- their paths
  keyed : All (HasPath []) (leaves w.tree)
  keyed = ended_paths [] w.tree w.ended

  -- the tree has as many nodes as they need
  size : node_count w.tree ≡ tree_size rules
  size =
      nodes_counted w.tree order
      ∙ ap (λ (n : ℕ). n + front_count (paths w.tree))
      (sym (length-leaves w.tree) ∙ ap (λ (xs : List GlobRule). length xs) (rules-leaves w.tree ∙ sym kept))
      ∙ ap (λ (ps : List (List ℕ)). length (tree_rules rules) + front_count ps)
      (sym (paths_of w.tree) ∙ sym (endings_of (leaves w.tree) keyed) ∙ ap (map reversed_ending) (rules-leaves w.tree ∙ sym kept))

  -- it stands
  pub tree_list : IsTreeList c at rules
  tree_list = record {
    stand = record {
      tree = w.tree;
      first = first;
      head = subst (λ (n : ℕ). CardsAt (Stands c) at (n ∷ first ∷ [])) (sym w.siblings) cards;
      stand = w.stand;
      ordered = order;
      leaves = λ path. sym (leaves-at path w.tree) ∙ sym (keys_of path (leaves w.tree) keyed)
          ∙ ap (with_key reversed_ending path) (rules-leaves w.tree ∙ sym kept);
      size = size;
    };
    leaves = all;
    limits = rw are (ended_limits [] w.tree w.ended);
  }

  -- its nodes were taken
  pub tree_taken : new + 12 * tree_size rules ≡ old
  tree_taken = omega (arith, size, w.nodes)
