-- One sibling of the suffix tree: a leaf, or a node with what is below it.
use Rattle.std.proofs.Common.{◌≡◌, ℕ, ◌+◌, ◌<◌, ◌≤◌, List, [], ◌∷◌, ◌++◌, length, refl, sym, ap, ◌∙◌, arith}
use Rattle.std.proofs.lemmas.List.{append-nil}
use Rattle.mime_base.specs.Cache.Bytes.{field}
use Rattle.mime_base.specs.Format.Tree.{Tree, bare, leaf, node, node_count, rules_in, sibling_count}
use Rattle.mime_base.specs.declared.database.rule.GlobRule.{GlobRule}
use Rattle.mime_view.specs.Listing.{IsRow}
use Rattle.mime_view.specs.Listing.Reads.{ReadsListedLeaf, ReadsListedTree}
use Rattle.mime_view.specs.Magic.{LiesBlock}
use Rattle.mime_view.specs.declared.rules.row.Row.{Row}
use Rattle.mime_view.specs.declared.spending.Spending.{Spending}

-- a sibling whose first number is 0 is a leaf
pub record IsLeaf (c : List ℕ) (at : ℕ) (ending : List ℕ) (one : Tree) : Type 0 where
  pub rule : GlobRule
  pub reads : ReadsListedLeaf c at ending rule
  pub alone : rules_in one ≡ rule ∷ []
  pub size : node_count one ≡ 1

-- without a sibling there is no rule and no node
none_after : (rest : Tree) → sibling_count rest ≡ 0 → (rules_in rest ≡ []) × (node_count rest ≡ 0)
none_after bare none = (refl, refl)
none_after (leaf rule rest) none = absurd (omega arith)
none_after (node character below rest) none = absurd (omega arith)

-- such a sibling is read as a leaf
pub leaf_read : (c : List ℕ) (at : ℕ) (ending : List ℕ) (one : Tree) → sibling_count one ≡ 1 → ReadsListedTree c at ending one → field c at 0 ≡ 0
    → IsLeaf c at ending one
leaf_read c at ending bare alone reads zero = absurd (omega arith)
leaf_read c at ending (leaf rule rest) alone reads zero =
    let none = none_after rest (omega arith) in record {
      rule = rule;
      reads = reads.1;
      alone = ap (λ (xs : List GlobRule). rule ∷ xs) none.0;
      size = omega (arith, none.1);
    }
leaf_read c at ending (node character below rest) alone reads zero = absurd (omega (arith, reads.0, reads.1))

-- any other is a node with what is below it
pub record IsParent (c : List ℕ) (at : ℕ) (ending : List ℕ) (one : Tree) : Type 0 where
  pub below : Tree
  pub byte : field c at 0 < 256
  pub depth : length ending < 254
  pub count : sibling_count below ≡ field c at 1
  pub block : LiesBlock c (field c at 2) 12 (field c at 1)
  pub reads : ReadsListedTree c (field c at 2) (field c at 0 ∷ ending) below
  pub alone : rules_in one ≡ rules_in below
  pub size : node_count one ≡ 1 + node_count below

-- and any other as a node
pub node_read : (c : List ℕ) (at : ℕ) (ending : List ℕ) (one : Tree) → sibling_count one ≡ 1 → ReadsListedTree c at ending one → 0 < field c at 0
    → IsParent c at ending one
node_read c at ending bare alone reads some = absurd (omega arith)
node_read c at ending (leaf rule rest) alone reads some = absurd (omega (arith, reads.0))
node_read c at ending (node character below rest) alone reads some =
    let none = none_after rest (omega arith) in record {
      below = below;
      byte = omega (arith, reads.0, reads.2);
      depth = reads.3;
      count = sym reads.4;
      block = rw reads.4 reads.5;
      reads = rw reads.0 reads.6;
      alone = ap (λ (xs : List GlobRule). rules_in below ++ xs) none.0 ∙ append-nil (rules_in below);
      size = omega (arith, none.1);
    }

-- a sibling is at least one node
pub some_node : (one : Tree) → sibling_count one ≡ 1 → 1 ≤ node_count one
some_node bare alone = absurd (omega arith)
some_node (leaf rule rest) alone = omega arith
some_node (node character below rest) alone = omega arith

-- what is below a node, by its numbers and the ending that has grown
pub record IsBelow (c : List ℕ) (first count : ℕ) (grown : List ℕ) (one : Tree) : Type 0 where
  pub below : Tree
  pub wide : sibling_count below ≡ count
  pub reads : ReadsListedTree c first grown below
  pub alone : rules_in one ≡ rules_in below
  pub size : node_count one ≡ 1 + node_count below

-- by the row that is taken from it, what is below it is read
pub below_read : {c : List ℕ} {at : ℕ} {old new : Spending} {row : Row} {count first : ℕ} {grown : List ℕ} (ending : List ℕ) (one : Tree)
    → IsRow c at old new row → sibling_count one ≡ 1 → ReadsListedTree c at ending one → 0 < row.first → count ≡ row.second
    → first ≡ row.third → grown ≡ row.first ∷ ending → IsBelow c first count grown one
below_read {c = c} {at = at} {grown = grown} ending one taken alone reads some is1 is2 grew =
    let inner = node_read c at ending one alone reads (omega (arith, taken.first)) in
    let here : grown ≡ field c at 0 ∷ ending = grew ∙ ap (λ (n : ℕ). n ∷ ending) taken.first in record {
      below = inner.below;
      wide = inner.count ∙ sym (is1 ∙ taken.second);
      reads = rw (is2 ∙ taken.third, here) inner.reads;
      alone = inner.alone;
      size = inner.size;
    }
