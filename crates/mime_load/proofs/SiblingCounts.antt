-- Siblings that stand at one offset have as many nodes and leaves.
use Rattle.std.proofs.Common.{◌≡◌, ℕ, ◌+◌, List, [], ◌∷◌, get_or, refl, ap, sym, subst, ◌∙◌, arith}
use Rattle.mime_base.specs.Cache.Bytes.{Stands}
use Rattle.mime_base.specs.Format.Stored.{weight_and_flags}
use Rattle.mime_base.specs.Format.SuffixTree.{SuffixTreeAt, tree_size}
use Rattle.mime_base.specs.Format.Tree.{InOrder, Tree, TreeAt, bare, leaf, leaf_count, node, node_count, sibling_count}
use Rattle.mime_base.specs.declared.database.rule.GlobRule.{GlobRule}
use Rattle.mime_load.proofs.SameLemmas.{same_numbers}

-- What two trees that stand at one offset share.
pub record SameCounts (t u : Tree) : Type 0 where
  pub nodes : node_count t ≡ node_count u
  pub leaves : leaf_count t ≡ leaf_count u

-- as many siblings in order
pub same_counts : (c : List ℕ) (at b d : ℕ) (t u : Tree) → InOrder b t → InOrder d u → TreeAt (Stands c) at t → TreeAt (Stands c) at u
    → sibling_count t ≡ sibling_count u → SameCounts t u
same_counts c at b d bare bare o p one two size = record { nodes = refl; leaves = refl }
same_counts c at b d bare (leaf s y) o p one two size = absurd (omega (arith, size))
same_counts c at b d bare (node k u y) o p one two size = absurd (omega (arith, size))
same_counts c at b d (leaf r x) bare o p one two size = absurd (omega (arith, size))
same_counts c at b d (leaf r x) (leaf s y) o p one two size =
    let rest = same_counts c (at + 12) b d x y o.1 p.1 one.3 two.3 (omega (arith, size)) in
    record { nodes = omega (arith, rest.nodes); leaves = omega (arith, rest.leaves) }
same_counts c at b d (leaf r x) (node k u y) o p one two size =
    let none : 0 ≡ k = ap (λ (ns : List ℕ). get_or ns 0 0)
    (same_numbers c at (0 ∷ one.0 ∷ weight_and_flags r ∷ []) (k ∷ sibling_count u ∷ two.0 ∷ []) refl one.1 two.1) in
    absurd (omega (arith, p.0, none))
same_counts c at b d (node j t x) bare o p one two size = absurd (omega (arith, size))
same_counts c at b d (node j t x) (leaf s y) o p one two size =
    let none : j ≡ 0 = ap (λ (ns : List ℕ). get_or ns 0 0)
    (same_numbers c at (j ∷ sibling_count t ∷ one.0 ∷ []) (0 ∷ two.0 ∷ weight_and_flags s ∷ []) refl one.1 two.1) in
    absurd (omega (arith, o.0, none))
same_counts c at b d (node j t x) (node k u y) o p one two size =
    let e = same_numbers c at (j ∷ sibling_count t ∷ one.0 ∷ []) (k ∷ sibling_count u ∷ two.0 ∷ []) refl one.1 two.1 in
    let siblings : sibling_count t ≡ sibling_count u = ap (λ (ns : List ℕ). get_or ns 1 0) e in
    let place : one.0 ≡ two.0 = ap (λ (ns : List ℕ). get_or ns 2 0) e in
    let below = same_counts c one.0 0 0 t u o.2 p.2 one.2 (subst (λ (a : ℕ). TreeAt (Stands c) a u) (sym place) two.2) siblings in
    let rest = same_counts c (at + 12) j k x y o.3 p.3 one.3 two.3 (omega (arith, size)) in
    record { nodes = omega (arith, below.nodes, rest.nodes); leaves = omega (arith, below.leaves, rest.leaves) }

-- rules whose trees stand at one offset need as many nodes
pub same_tree_size : (c : List ℕ) (at : ℕ) (rules others : List GlobRule) → SuffixTreeAt (Stands c) at rules
    → SuffixTreeAt (Stands c) at others
    → tree_size rules ≡ tree_size others
same_tree_size c at rules others one two =
    let e = same_numbers c at (sibling_count one.tree ∷ one.first ∷ []) (sibling_count two.tree ∷ two.first ∷ []) refl one.head two.head in
    let siblings : sibling_count one.tree ≡ sibling_count two.tree = ap (λ (ns : List ℕ). get_or ns 0 0) e in
    let place : one.first ≡ two.first = ap (λ (ns : List ℕ). get_or ns 1 0) e in
    let same = same_counts c one.first 0 0 one.tree two.tree one.ordered two.ordered one.stand
    (subst (λ (a : ℕ). TreeAt (Stands c) a two.tree) (sym place) two.stand) siblings in
    sym one.size ∙ same.nodes ∙ two.size
