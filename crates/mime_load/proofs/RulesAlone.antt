-- The rules of one list that stand there stand there alone too.
use Rattle.std.proofs.Common.{◌≡◌, ℕ, ◌+◌, List, length, map, ap, sym, subst, ◌∙◌}
use Rattle.std.specs.List.{All}
use Rattle.std.proofs.lemmas.List.Elements.{All-filter, filter_passes}
use Rattle.mime_base.specs.Cache.Bytes.{Stands}
use Rattle.mime_base.specs.Database.Limits.{KeepsLimits}
use Rattle.mime_base.specs.Format.Records.{ListAt}
use Rattle.mime_base.specs.Format.Rules.{GlobsAt, IsRule, LiteralsAt}
use Rattle.mime_base.specs.Format.Sorted.{IsSortedByText, with_key}
use Rattle.mime_base.specs.Format.Stored.{glob_rules, is_in_globs, is_in_literals, is_in_tree, literal_rules, reversed_ending, stored_text, tree_rules}
use Rattle.mime_base.specs.Format.SuffixTree.{SuffixTreeAt, front_count, tree_size}
use Rattle.mime_base.specs.declared.database.rule.GlobRule.{GlobRule}
use Rattle.mime_load.specs.Parts.{IsGlobList, IsLiteralList, IsTreeList}
use Rattle.mime_load.proofs.RuleLists.{all_kept}

module _ (c : List ℕ) (at : ℕ) (rules : List GlobRule) (limits : All KeepsLimits rules) where
  -- the literal rules of a literal list
  pub literals_alone : LiteralsAt (Stands c) at rules → IsLiteralList c at (literal_rules rules)
  literals_alone list = record {
    stand = record {
      entries = list.entries;
      sorted = subst (λ (rs : List GlobRule). IsSortedByText stored_text rs list.entries) (sym again) list.sorted;
      stand = list.stand;
    };
    literals = filter_passes is_in_literals rules;
    limits = All-filter is_in_literals KeepsLimits rules limits;
  }
    where
      again : literal_rules (literal_rules rules) ≡ literal_rules rules
      again = all_kept is_in_literals (literal_rules rules) (filter_passes is_in_literals rules)

  -- the rules of a tree
  tree_again : tree_rules (tree_rules rules) ≡ tree_rules rules
  tree_again = all_kept is_in_tree (tree_rules rules) (filter_passes is_in_tree rules)

  -- they need as many nodes
  pub tree_alone_size : tree_size (tree_rules rules) ≡ tree_size rules
  tree_alone_size = ap (λ (rs : List GlobRule). length rs + front_count (map reversed_ending rs)) tree_again

  -- they are those of the tree alone
  pub tree_alone : SuffixTreeAt (Stands c) at rules → IsTreeList c at (tree_rules rules)
  tree_alone list = record {
    stand = record {
      tree = list.tree;
      first = list.first;
      head = list.head;
      stand = list.stand;
      ordered = list.ordered;
      leaves = λ path. list.leaves path ∙ ap (with_key reversed_ending path) (sym tree_again);
      size = list.size ∙ sym tree_alone_size;
    };
    leaves = filter_passes is_in_tree rules;
    limits = All-filter is_in_tree KeepsLimits rules limits;
  }

  -- the rules of a glob list
  pub globs_alone : GlobsAt (Stands c) at rules → IsGlobList c at (glob_rules rules)
  globs_alone list = record {
    stand = subst (ListAt (Stands c) 12 (IsRule (Stands c)) at) (sym again) list;
    globs = filter_passes is_in_globs rules;
    limits = All-filter is_in_globs KeepsLimits rules limits;
  }
    where
      again : glob_rules (glob_rules rules) ≡ glob_rules rules
      again = all_kept is_in_globs (glob_rules rules) (filter_passes is_in_globs rules)
