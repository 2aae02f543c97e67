-- What is read of the lists of rules: an entry is of its list, and a list is of all three.
use Rattle.std.proofs.Common.{◌≡◌, ℕ, ◌+◌, ◌*◌, ◌<◌, List, inr, refl, subst}
use Rattle.mime_base.specs.Cache.Bytes.{field}
use Rattle.mime_view.specs.Lists.{IsNamedFault, IsNamedPlace}
use Rattle.mime_view.specs.NameHits.{lists_part, walks_part}
use Rattle.mime_view.specs.Steps.{either_part, entries_part, entry_part, list_part}
use Rattle.mime_view.specs.SuffixTree.{tree_part}
use Rattle.mime_view.specs.declared.name.RuleLists.{RuleLists}
use Rattle.mime_view.proofs.HitsLemmas.Parts.{IsWithin, first_within, second_within, within_then}

module _ (c : List ℕ) where
  -- an entry is one of its list
  pub entry_within : (first count i : ℕ) → i < count → IsWithin (entry_part c (first + 12 * i)) (entries_part c first count)
  entry_within first count i l = record {
    fault = λ e is. record { i = i; within = l; text = is };
    kind = λ place is. record { i = i; within = l; is = is };
  }

  -- the entries of a list are of the list
  pub entries_within : (at count : ℕ) → count ≡ field c at 0 → IsWithin (entries_part c (at + 4) count) (list_part c at)
  entries_within at count is = record {
    fault = λ e named. inr (subst (λ (n : ℕ). IsNamedFault c (at + 4) 12 n 0 e) is named);
    kind = λ place named. subst (λ (n : ℕ). IsNamedPlace c (at + 4) 12 n 1 place) is named;
  }

  -- so each entry is of the list
  pub entry_of_list : (at i : ℕ) → i < field c at 0 → IsWithin (entry_part c (at + 4 + 12 * i)) (list_part c at)
  entry_of_list at i l =
      within_then (entry_part c (at + 4 + 12 * i)) (entries_part c (at + 4) (field c at 0)) (list_part c at)
      (entry_within (at + 4) (field c at 0) i l) (entries_within at (field c at 0) refl)

  module _ (lists : RuleLists) (name : List ℕ) where
    -- the literal list is one of the three
    pub literals_within : IsWithin (list_part c lists.literals) (lists_part c lists name)
    literals_within = first_within _ (either_part (walks_part c lists.tree name) (list_part c lists.globs))

    -- so is the tree, along the name and along the folded name
    pub walks_within : IsWithin (walks_part c lists.tree name) (lists_part c lists name)
    walks_within =
        within_then _ (either_part (walks_part c lists.tree name) (list_part c lists.globs)) _ (first_within _ _) (second_within _ _)

    -- along the name alone
    pub walk_within : IsWithin (tree_part c lists.tree name) (lists_part c lists name)
    walk_within = within_then _ (walks_part c lists.tree name) _ (first_within _ _) walks_within

    -- and the glob list
    pub globs_within : IsWithin (list_part c lists.globs) (lists_part c lists name)
    globs_within =
        within_then _ (either_part (walks_part c lists.tree name) (list_part c lists.globs)) _ (second_within _ _) (second_within _ _)
