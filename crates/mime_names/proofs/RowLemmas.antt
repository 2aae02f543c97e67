-- Rows of the tree: a node gets a row.
use Rattle.std.proofs.Common.{◌≡◌, inl, inr, ℕ, zero, suc, ◌+◌, ◌-◌, ◌<◌, ◌≤◌, List, [], ◌∷◌, ◌++◌, length, get_or, replicate, set, refl, sym, ap, ◌∙◌, arith}
use Rattle.std.proofs.lemmas.Bool.{cases_eq, cases_lt}
use Rattle.std.proofs.lemmas.List.{get_or-set_other, get_or-set_same, get_or_append_left, get_or-replicate, get_or_past, length-append, length-replicate, length-set}
use Rattle.std.proofs.Math.Seq.{get_or-append_right}
use Rattle.mime_names.specs.Tree.{Grows, HasRow, IsTree, next_of}
use Rattle.mime_names.specs.declared.tree.Tree.{Tree}

-- a zero alone is 0 everywhere
pub zero-alone : (i : ℕ) → ◌≡◌ {A = ℕ} (get_or (0 ∷ []) i 0) 0
zero-alone zero = refl
zero-alone (suc i) = refl

-- zeros are 0 everywhere
pub zeros : (n i : ℕ) → ◌≡◌ {A = ℕ} (get_or (replicate n 0) i 0) 0
zeros n i = elim (cases_lt i n) [
  | inl inside ↦ get_or-replicate {A = ℕ} n i 0 0 inside
  | inr past ↦ get_or_past (replicate n 0) i 0 (omega (arith, past, length-replicate {A = ℕ} n 0))
]

-- a tree of no text
pub tree-none : (tree : Tree) → tree.starts.items ≡ 0 ∷ [] → tree.slots.items ≡ replicate 64 0 → IsTree tree
tree-none tree starts slots = record {
  some = omega (arith, ap length starts);
  rows = λ node. omega (arith, start-none node, many);
  apart = λ node some. absurd (omega (arith, some, start-none node));
  blank = λ s low. slot-none s;
  nodes = λ i. omega (arith, slot-none i, ap length starts);
  whole = omega (arith, many);
  aligned = λ node. omega (arith, start-none node);
  own = λ m n some. absurd (omega (arith, some, start-none m));
  once = λ i j some. absurd (omega (arith, some, slot-none i));
}
  where
    start-none : (node : ℕ) → get_or tree.starts.items node 0 ≡ 0
    start-none node = ap (λ xs. get_or xs node 0) starts ∙ zero-alone node

    slot-none : (i : ℕ) → get_or tree.slots.items i 0 ≡ 0
    slot-none i = ap (λ xs. get_or xs i 0) slots ∙ zeros 64 i

    many : length tree.slots.items ≡ 64
    many = ap length slots ∙ length-replicate {A = ℕ} 64 0

module _ (old new : Tree) (node row : ℕ) (blank : List ℕ) (is : IsTree old) (inside : node < length old.starts.items)
    (none : get_or old.starts.items node 0 ≡ 0) (end : row ≡ length old.slots.items) (starts : new.starts.items ≡ set old.starts.items node row)
    (slots : new.slots.items ≡ old.slots.items ++ blank) (size : length blank ≡ 64) (empty : (i : ℕ) → get_or blank i 0 ≡ 0) where
  -- there are as many nodes
  nodes-made : length new.starts.items ≡ length old.starts.items
  nodes-made = ap length starts ∙ length-set old.starts.items node row

  -- and 64 slots more
  slots-made : length new.slots.items ≡ length old.slots.items + 64
  slots-made = omega (arith, ap length slots, length-append old.slots.items blank, size)

  -- the node's row begins at the end
  start-made : get_or new.starts.items node 0 ≡ row
  start-made = ap (λ xs. get_or xs node 0) starts ∙ get_or-set_same old.starts.items node row 0 inside

  -- any other where it did
  start-kept : (n : ℕ) → (n ≡ node → ⊥) → get_or new.starts.items n 0 ≡ get_or old.starts.items n 0
  start-kept n other = ap (λ xs. get_or xs n 0) starts ∙ get_or-set_other old.starts.items node n row 0 other

  -- a slot stays
  slot-kept : (i : ℕ) → i < length old.slots.items → get_or new.slots.items i 0 ≡ get_or old.slots.items i 0
  slot-kept i within = ap (λ xs. get_or xs i 0) slots ∙ get_or_append_left old.slots.items blank 0 i within

  -- a new one is empty
  slot-made : (i : ℕ) → length old.slots.items ≤ i → get_or new.slots.items i 0 ≡ 0
  slot-made i past =
      ap (λ xs. get_or xs i 0) slots ∙ get_or-append_right old.slots.items blank i 0 past ∙ empty (i - length old.slots.items)

  -- what stood there stands there
  row-grows : Grows old new
  row-grows = record {
    many = omega (arith, nodes-made);
    same = λ n s low some. elim (cases_eq n node) [
      | inl own ↦ absurd (omega (arith, some, ap (λ m. next_of old m s) own, ap (λ m. get_or old.slots.items (m + s) 0) none, is.blank s low))
      | inr other ↦ ap (λ m. get_or new.slots.items (m + s) 0) (start-kept n other)
          ∙ slot-kept (get_or old.starts.items n 0 + s) (omega (arith, is.rows n, low))
    ];
  }

  -- the table is one of a tree
  row-tree : IsTree new
  row-tree = record {
    some = omega (arith, is.some, nodes-made);
    rows = λ n. elim (cases_eq n node) [
      | inl own ↦ omega (arith, ap (λ m. get_or new.starts.items m 0) own, start-made, end, slots-made)
      | inr other ↦ omega (arith, start-kept n other, is.rows n, slots-made)
    ];
    apart = λ n some. elim (cases_eq n node) [
      | inl own ↦ omega (arith, ap (λ m. get_or new.starts.items m 0) own, start-made, end, is.rows n)
      | inr other ↦ omega (arith, start-kept n other, is.apart n (omega (arith, start-kept n other, some)))
    ];
    blank = λ s low. slot-kept s (omega (arith, low, is.rows node)) ∙ is.blank s low;
    nodes = λ i. elim (cases_lt i (length old.slots.items)) [
      | inl front ↦ omega (arith, slot-kept i front, is.nodes i, nodes-made)
      | inr past ↦ omega (arith, slot-made i past, is.some, nodes-made)
    ];
    whole = omega (arith, slots-made, is.whole);
    aligned = λ n. elim (cases_eq n node) [
      | inl same ↦ omega (arith, ap (λ m. get_or new.starts.items m 0) same, start-made, end, is.whole)
      | inr other ↦ omega (arith, start-kept n other, is.aligned n)
    ];
    own = λ m n some same. elim (cases_eq m node) [
      | inl first ↦ elim (cases_eq n node) [
        | inl second ↦ omega (arith, first, second)
        | inr other ↦ absurd (omega (
          arith,
          same,
          ap (λ k. get_or new.starts.items k 0) first,
          start-made,
          end,
          start-kept n other,
          is.rows n,
        ))
      ]
      | inr other ↦ elim (cases_eq n node) [
        | inl second ↦ absurd (omega (
          arith,
          same,
          ap (λ k. get_or new.starts.items k 0) second,
          start-made,
          end,
          start-kept m other,
          is.rows m,
        ))
        | inr also ↦ is.own m n (omega (arith, some, start-kept m other)) (sym (start-kept m other) ∙ same ∙ start-kept n also)
      ]
    ];
    once = λ i j some same. elim (cases_lt i (length old.slots.items)) [
      | inl front ↦ elim (cases_lt j (length old.slots.items)) [
        | inl also ↦ is.once i j (omega (arith, some, slot-kept i front)) (sym (slot-kept i front) ∙ same ∙ slot-kept j also)
        | inr past ↦ absurd (omega (arith, some, same, slot-made j past))
      ]
      | inr past ↦ absurd (omega (arith, some, slot-made i past))
    ];
  }

  -- a node that had none has a row
  pub row-made : HasRow old node new row
  row-made = record {
    grows = row-grows;
    is_tree = row-tree;
    own = start-made;
    apart = omega (arith, end, is.rows node);
    empty = λ s low before. ap (λ m. get_or new.slots.items (m + s) 0) start-made ∙ slot-made (row + s) (omega (arith, end));
    many = nodes-made;
  }
