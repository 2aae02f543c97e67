-- A slot of a node's row gets a new node.
use Rattle.std.proofs.Common.{◌≡◌, inl, inr, ℕ, ◌+◌, ◌-◌, ◌<◌, List, [], ◌∷◌, ◌++◌, length, get_or, set, sym, ap, ◌∙◌, arith}
use Rattle.std.proofs.lemmas.Bool.{cases_eq, cases_lt}
use Rattle.std.proofs.lemmas.List.{get_or-set_other, get_or-set_same, get_or_append_left, get_or_past, length-append, length-set}
use Rattle.std.proofs.Math.Seq.{get_or-append_right}
use Rattle.mime_names.specs.Tree.{Grows, HasRow, IsTree, Steps, next_of}
use Rattle.mime_names.specs.declared.tree.Tree.{Tree}
use Rattle.mime_names.proofs.TreeLemmas.{grows-trans}
use Rattle.mime_names.proofs.RowLemmas.{zero-alone}

-- after a list stands 0
after-zero : (xs : List ℕ) (n : ℕ) → ◌≡◌ {A = ℕ} (get_or (xs ++ 0 ∷ []) n 0) (get_or xs n 0)
after-zero xs n = elim (cases_lt n (length xs)) [
  | inl front ↦ get_or_append_left xs (0 ∷ []) 0 n front
  | inr past ↦ get_or-append_right xs (0 ∷ []) n 0 past ∙ zero-alone (n - length xs) ∙ sym (get_or_past xs n 0 past)
]

module _ (old mid new : Tree) (node s row next : ℕ) (has : HasRow old node mid row) (low : s < 64) (none : next_of old node s ≡ 0)
    (starts : new.starts.items ≡ mid.starts.items ++ 0 ∷ []) (slots : new.slots.items ≡ set mid.slots.items (row + s) next)
    (count : next ≡ length mid.starts.items) where
  -- there is one node more
  nodes-more : length new.starts.items ≡ length mid.starts.items + 1
  nodes-more = omega (arith, ap length starts, length-append mid.starts.items (0 ∷ []))

  -- and no slot
  slots-same : length new.slots.items ≡ length mid.slots.items
  slots-same = ap length slots ∙ length-set mid.slots.items (row + s) next

  -- the slot is there
  slot-inside : row + s < length mid.slots.items
  slot-inside = omega (arith, has.is_tree.rows node, has.own, low)

  -- a row begins where it did
  start-same : (n : ℕ) → get_or new.starts.items n 0 ≡ get_or mid.starts.items n 0
  start-same n = ap (λ xs. get_or xs n 0) starts ∙ after-zero mid.starts.items n

  -- the slot has the new node
  slot-set : get_or new.slots.items (row + s) 0 ≡ next
  slot-set = ap (λ xs. get_or xs (row + s) 0) slots ∙ get_or-set_same mid.slots.items (row + s) next 0 slot-inside

  -- any other what it had
  slot-other : (i : ℕ) → (i ≡ row + s → ⊥) → get_or new.slots.items i 0 ≡ get_or mid.slots.items i 0
  slot-other i other = ap (λ xs. get_or xs i 0) slots ∙ get_or-set_other mid.slots.items (row + s) i next 0 other

  -- the slot was empty
  slot-before : get_or mid.slots.items (row + s) 0 ≡ 0
  slot-before = ap (λ m. get_or mid.slots.items (m + s) 0) (sym has.own) ∙ has.empty s low none

  -- what stood there stands there
  step-grows : Grows mid new
  step-grows = record {
    many = omega (arith, nodes-more);
    same = λ n t under some. elim (cases_eq (get_or mid.starts.items n 0 + t) (row + s)) [
      | inl own ↦ absurd (omega (arith, some, ap (λ i. get_or mid.slots.items i 0) own, slot-before))
      | inr other ↦ ap (λ m. get_or new.slots.items (m + t) 0) (start-same n) ∙ slot-other (get_or mid.starts.items n 0 + t) other
    ];
  }

  -- the table is one of a tree
  step-tree : IsTree new
  step-tree = record {
    some = omega (arith, nodes-more);
    rows = λ n. omega (arith, start-same n, slots-same, has.is_tree.rows n);
    apart = λ n some. omega (arith, start-same n, has.is_tree.apart n (omega (arith, start-same n, some)));
    blank = λ t under. slot-other t (λ same. omega (arith, same, under, has.apart)) ∙ has.is_tree.blank t under;
    nodes = λ i. elim (cases_eq i (row + s)) [
      | inl own ↦ omega (arith, ap (λ k. get_or new.slots.items k 0) own, slot-set, count, nodes-more)
      | inr other ↦ omega (arith, slot-other i other, has.is_tree.nodes i, nodes-more)
    ];
    whole = omega (arith, slots-same, has.is_tree.whole);
    aligned = λ n. omega (arith, start-same n, has.is_tree.aligned n);
    own = λ m n some same. has.is_tree.own m n (omega (arith, some, start-same m)) (sym (start-same m) ∙ same ∙ start-same n);
    once = λ i j some same. elim (cases_eq i (row + s)) [
      | inl first ↦ elim (cases_eq j (row + s)) [
        | inl second ↦ omega (arith, first, second)
        | inr other ↦ absurd (omega (
          arith,
          same,
          ap (λ k. get_or new.slots.items k 0) first,
          slot-set,
          count,
          slot-other j other,
          has.is_tree.nodes j,
        ))
      ]
      | inr other ↦ elim (cases_eq j (row + s)) [
        | inl second ↦ absurd (omega (
          arith,
          same,
          ap (λ k. get_or new.slots.items k 0) second,
          slot-set,
          count,
          slot-other i other,
          has.is_tree.nodes i,
        ))
        | inr also ↦ has.is_tree.once i j (omega (arith, some, slot-other i other)) (sym (slot-other i other) ∙ same ∙ slot-other j also)
      ]
    ];
  }

  -- a symbol that led nowhere leads to a new node
  pub step-made : Steps old node s new next
  step-made = record {
    grows = grows-trans old mid new has.grows step-grows;
    is_tree = step-tree;
    is = ap (λ m. get_or new.slots.items (m + s) 0) (start-same node ∙ has.own) ∙ slot-set;
    some = omega (arith, count, has.is_tree.some);
    within = omega (arith, count, nodes-more);
  }
