-- The first of siblings that stand is read.
use Rattle.std.proofs.Common.{◌≡◌, ℕ, ◌+◌, ◌<◌, ◌≤◌, List, [], ◌∷◌, length, get_or, refl, sym, subst, arith}
use Rattle.mime_base.specs.Cache.Bytes.{Stands}
use Rattle.mime_base.specs.Format.Records.{CardsAt}
use Rattle.mime_base.specs.Format.Stored.{weight_and_flags}
use Rattle.mime_base.specs.Format.Tree.{Tree, bare, leaf, leaf_count, node, node_count, sibling_count}
use Rattle.mime_base.specs.declared.database.rule.GlobRule.{GlobRule}
use Rattle.mime_load.specs.Walks.{IsLeafRule, TreeStands, first_character, first_nodes}
use Rattle.mime_load.proofs.EndedTrees.{FitsLeaf, leaf_fits}
use Rattle.mime_load.proofs.SameLemmas.{numbers_inside, same_numbers}

-- What is read of a leaf.
pub record ReadsLeaf (c numbers ending : List ℕ) : Type 0 where
  pub rule : GlobRule
  pub is : IsLeafRule c (get_or numbers 1 0) (get_or numbers 2 0) ending rule

-- What is read of a node of that many nodes.
pub record ReadsNode (c numbers ending : List ℕ) (nodes : ℕ) : Type 0 where
  pub below : Tree
  pub stands : TreeStands c (get_or numbers 2 0) (get_or numbers 0 0 ∷ ending) below
  pub siblings : sibling_count below ≡ get_or numbers 1 0
  pub counted : 1 + node_count below ≡ nodes
  pub leaves : 0 < leaf_count below
  pub fits : FitsLeaf (get_or numbers 0 0 ∷ ending)

-- What is read of the first of siblings.
pub record ReadsSibling (c numbers ending : List ℕ) (tree : Tree) : Type 0 where
  pub character : get_or numbers 0 0 ≡ first_character tree
  pub leaf_read : get_or numbers 0 0 ≡ 0 → ReadsLeaf c numbers ending
  pub node_read : 0 < get_or numbers 0 0 → ReadsNode c numbers ending (first_nodes tree)

-- the first of siblings that stand is read
pub sibling_read : (c numbers : List ℕ) (at : ℕ) (ending : List ℕ) (tree : Tree) → length numbers ≡ 3 → CardsAt (Stands c) at numbers
    → TreeStands c at ending tree → 0 < sibling_count tree → ReadsSibling c numbers ending tree
sibling_read c numbers at ending bare long cards s some = absurd (omega (arith, some))
sibling_read c numbers at ending (leaf rule rest) long cards s some =
    let e : numbers ≡ 0 ∷ s.stand.0 ∷ weight_and_flags rule ∷ [] =
    same_numbers c at numbers (0 ∷ s.stand.0 ∷ weight_and_flags rule ∷ []) long cards s.stand.1 in
    subst (λ (ns : List ℕ). ReadsSibling c ns ending (leaf rule rest)) (sym e) (record {
      character = refl;
      leaf_read = λ none. record { rule = rule; is = record { flags_are = refl; kind_stands = s.stand.2; ends = s.ended.0 } };
      node_read = λ more. absurd (omega (arith, more));
    })
sibling_read c numbers at ending (node character below rest) long cards s some =
    let e : numbers ≡ character ∷ sibling_count below ∷ s.stand.0 ∷ [] =
    same_numbers c at numbers (character ∷ sibling_count below ∷ s.stand.0 ∷ []) long cards s.stand.1 in
    subst (λ (ns : List ℕ). ReadsSibling c ns ending (node character below rest)) (sym e) (record {
      character = refl;
      leaf_read = λ none. absurd (omega (arith, none, s.ordered.0));
      node_read = λ more. record {
        below = below;
        stands = record { stand = s.stand.2; before = 0; ordered = s.ordered.2; ended = s.ended.0 };
        siblings = refl;
        counted = refl;
        leaves = s.ordered.1;
        fits = leaf_fits (character ∷ ending) below s.ended.0 s.ordered.1;
      };
    })

-- its record lies in the cache
pub sibling_inside : (c : List ℕ) (at : ℕ) (ending : List ℕ) (tree : Tree) → TreeStands c at ending tree → 0 < sibling_count tree
    → at + 12 ≤ length c
sibling_inside c at ending bare s some = absurd (omega (arith, some))
sibling_inside c at ending (leaf rule rest) s some =
    omega (arith, numbers_inside c at (0 ∷ s.stand.0 ∷ weight_and_flags rule ∷ []) s.stand.1)
sibling_inside c at ending (node character below rest) s some =
    omega (arith, numbers_inside c at (character ∷ sibling_count below ∷ s.stand.0 ∷ []) s.stand.1)
