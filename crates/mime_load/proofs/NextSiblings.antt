-- The next sibling of those that stand, before those that were read.
use Rattle.std.proofs.Common.{◌≡◌, ℕ, zero, suc, ◌+◌, ◌*◌, ◌<◌, ◌≤◌, List, [], ◌∷◌, length, get_or, ap, subst, arith}
use Rattle.std.proofs.lemmas.List.Elements.{All-head}
use Rattle.mime_base.specs.Cache.Bytes.{Stands}
use Rattle.mime_base.specs.Format.Records.{CardsAt}
use Rattle.mime_base.specs.Format.Tree.{InOrder, Tree, TreeAt, bare, leaf, node, node_count, sibling_count}
use Rattle.mime_load.specs.Walks.{IsNext, TreeStands, first_character, first_nodes}
use Rattle.mime_load.proofs.EndedTrees.{leaf_fits}
use Rattle.mime_load.proofs.SameLemmas.{same_numbers}
use Rattle.mime_load.proofs.SiblingCounts.{same_counts}

-- a sibling before one whose first number was read has a lower character
pub lower_before : (c numbers : List ℕ) (at count next : ℕ) → length numbers ≡ 3 → CardsAt (Stands c) at numbers → get_or numbers 0 0 ≤ next
    → 1 ≤ next → IsNext c at (count + 1) next
lower_before c numbers at count next long cards low some =
    record { lower = λ before tree small stand size ordered. by before tree stand size ordered }
  where
    by : (before : ℕ) (tree : Tree) → TreeAt (Stands c) at tree → sibling_count tree ≡ count + 1 → InOrder before tree → before < next
    by before bare stand size ordered = absurd (omega (arith, size))
    by before (leaf rule rest) stand size ordered = omega (arith, ordered.0, some)
    by before (node character below rest) stand size ordered =
        let e : get_or numbers 0 0 ≡ character = ap (λ (ns : List ℕ). get_or ns 0 0)
        (same_numbers c at numbers (character ∷ sibling_count below ∷ stand.0 ∷ []) long cards stand.1) in
        omega (arith, ordered.0, e, low)

-- before none each byte may stand
pub none_before : (c : List ℕ) (at : ℕ) → IsNext c at 0 256
none_before c at = record { lower = λ before tree small stand size ordered. small }

-- the same at an offset that is written otherwise
pub next_as : (c : List ℕ) (at here count next : ℕ) → at ≡ here → IsNext c at count next → IsNext c here count next
next_as c at here count next same is = subst (λ (k : ℕ). IsNext c k count next) same is

-- Those of siblings that stand from one on.
record StandsFrom (c : List ℕ) (at : ℕ) (ending : List ℕ) (all : Tree) (count : ℕ) : Type 0 where
  tree : Tree
  stands : TreeStands c at ending tree
  siblings : sibling_count tree ≡ count
  nodes : node_count tree ≤ node_count all

-- they stand there
stands_from : (c : List ℕ) (first at : ℕ) (ending : List ℕ) (tree : Tree) (skipped count : ℕ) → TreeStands c first ending tree
    → sibling_count tree ≡ skipped + count → first + 12 * skipped ≡ at → StandsFrom c at ending tree count
stands_from c first at ending tree zero count s size place = record {
  tree = tree;
  stands = subst (λ (a : ℕ). TreeStands c a ending tree) (omega (arith, place)) s;
  siblings = omega (arith, size);
  nodes = omega arith;
}
stands_from c first at ending bare (suc skipped) count s size place = absurd (omega (arith, size))
stands_from c first at ending (leaf rule rest) (suc skipped) count s size place =
    let after : TreeStands c (first + 12) ending rest =
    record { stand = s.stand.3; before = s.before; ordered = s.ordered.1; ended = s.ended.1 } in
    let from = stands_from c (first + 12) at ending rest skipped count after (omega (arith, size)) (omega (arith, place)) in
    record { tree = from.tree; stands = from.stands; siblings = from.siblings; nodes = omega (arith, from.nodes) }
stands_from c first at ending (node character below rest) (suc skipped) count s size place =
    let after : TreeStands c (first + 12) ending rest =
    record { stand = s.stand.3; before = character; ordered = s.ordered.3; ended = s.ended.1 } in
    let from = stands_from c (first + 12) at ending rest skipped count after (omega (arith, size)) (omega (arith, place)) in
    record { tree = from.tree; stands = from.stands; siblings = from.siblings; nodes = omega (arith, from.nodes) }

-- the first of those that stand has a character below that of the next
first_lower : (c : List ℕ) (at : ℕ) (ending : List ℕ) (tree : Tree) (done next : ℕ) → TreeStands c at ending tree
    → sibling_count tree ≡ done + 1 → 1 ≤ next → IsNext c (at + 12) done next → first_character tree < next
first_lower c at ending bare done next s size some is_next = absurd (omega (arith, size))
first_lower c at ending (leaf rule rest) done next s size some is_next = omega (arith, some)
first_lower c at ending (node character below rest) done next s size some is_next =
    let fits = leaf_fits (character ∷ ending) below s.ended.0 s.ordered.1 in
    is_next.lower character rest (All-head (λ b. b < 256) character ending fits.bytes) s.stand.3 (omega (arith, size)) s.ordered.3

-- the others have as many nodes as those that were read
first_count : (c : List ℕ) (at b : ℕ) (ending : List ℕ) (tree read : Tree) (done : ℕ) → TreeStands c at ending tree
    → sibling_count tree ≡ done + 1 → InOrder b read → TreeAt (Stands c) (at + 12) read → sibling_count read ≡ done
    → first_nodes tree + node_count read ≡ node_count tree
first_count c at b ending bare read done s size o r n = absurd (omega (arith, size))
first_count c at b ending (leaf rule rest) read done s size o r n =
    omega (arith, (same_counts c (at + 12) s.before b rest read s.ordered.1 o s.stand.3 r (omega (arith, size, n))).nodes)
first_count c at b ending (node character below rest) read done s size o r n =
    omega (arith, (same_counts c (at + 12) character b rest read s.ordered.3 o s.stand.3 r (omega (arith, size, n))).nodes)

-- The next sibling of those that stand, before those that were read.
pub record NextSibling (c : List ℕ) (at : ℕ) (ending : List ℕ) (next room : ℕ) : Type 0 where
  pub tree : Tree
  pub stands : TreeStands c at ending tree
  pub some : 0 < sibling_count tree
  pub low : first_character tree < next
  pub within : 12 * first_nodes tree ≤ room

-- there is a next one
pub next_sibling : (c : List ℕ) (first at b : ℕ) (ending : List ℕ) (tree read : Tree) (skipped done next old room : ℕ)
    → TreeStands c first ending tree → sibling_count tree ≡ skipped + (done + 1) → first + 12 * skipped ≡ at → InOrder b read
    → TreeAt (Stands c) (at + 12) read → sibling_count read ≡ done → 1 ≤ next → IsNext c (at + 12) done next
    → 12 * node_count tree ≤ old → room + 12 * node_count read ≡ old → NextSibling c at ending next room
next_sibling c first at b ending tree read skipped done next old room s size place o r n some is_next fits left =
    let from = stands_from c first at ending tree skipped (done + 1) s size place in
    let count = first_count c at b ending from.tree read done from.stands from.siblings o r n in
    record {
      tree = from.tree;
      stands = from.stands;
      some = omega (arith, from.siblings);
      low = first_lower c at ending from.tree done next from.stands from.siblings some is_next;
      within = omega (arith, from.nodes, count, fits, left);
    }
