-- Siblings as a tree: what stands stays, and one sibling more.
use Rattle.std.proofs.Common.{◌≡◌, ℕ, ◌+◌, cond, eqb, List, [], ◌∷◌, ◌++◌, length, refl, sym}
use Rattle.std.proofs.Common.{ap, subst, ◌∙◌, append_assoc, arith}
use Rattle.std.proofs.lemmas.List.{append-nil}
use Rattle.mime_base.specs.Format.Records.{CardsAt, RecordsAt, Standing}
use Rattle.mime_base.specs.Format.Tree.{InOrder, Tree, TreeAt, bare, leaf, leaf_count, leaves_at, node, node_count, sibling_count}
use Rattle.mime_store.specs.SuffixTree.{IsSiblingRecord, Sibling}
use Rattle.mime_store.specs.SuffixTree.{a_leaf, a_node, as_tree, leaves_of, next_byte}
use Rattle.mime_store.specs.SuffixTree.{sibling_leaves, sibling_nodes}
use Rattle.mime_store.specs.Written.{Written}
use Rattle.mime_store.proofs.ListLemmas.Entries.{cards_carry, text_carry}
use Rattle.mime_store.proofs.ListLemmas.Gather.{Keeps}
use Rattle.mime_store.proofs.BytesLemmas.Written.{Carries}

-- a tree that stands stays as more is written
pub tree_carry : (S S' : Standing) → Carries S S' → (at : ℕ) (tree : Tree) → TreeAt S at tree → TreeAt S' at tree
tree_carry S S' f at bare h = tt
tree_carry S S' f at (leaf rule rest) h =
    (h.0, cards_carry S S' f at _ h.1, text_carry S S' f h.0 rule.kind h.2, tree_carry S S' f (at + 12) rest h.3)
tree_carry S S' f at (node byte below rest) h =
    (h.0, cards_carry S S' f at _ h.1, tree_carry S S' f h.0 below h.2, tree_carry S S' f (at + 12) rest h.3)

-- the record of a sibling stays one as more is written
pub sibling_keeps : Keeps IsSiblingRecord
sibling_keeps S S' f (a_leaf rule) row h = (h.0, h.1, text_carry S S' f h.0 rule.kind h.2)
sibling_keeps S S' f (a_node byte below) row h = (h.0, h.1, tree_carry S S' f h.0 below h.2)

-- the record of a sibling has three numbers
pub sibling_sized : (c : List ℕ) (sibling : Sibling) (row : List ℕ) → IsSiblingRecord (Written c) sibling row → length row ≡ 3
sibling_sized c (a_leaf rule) row h = rw h.1 refl
sibling_sized c (a_node byte below) row h = rw h.1 refl

-- records of siblings are a tree
pub tree_from_records : (S : Standing) (at : ℕ) (xs : List Sibling) → RecordsAt S 12 (IsSiblingRecord S) at xs
    → TreeAt S at (as_tree xs)
tree_from_records S at [] h = tt
tree_from_records S at (a_leaf rule ∷ xs) h =
    let is = h.2 in
    (is.0, subst (CardsAt S at) is.1 h.1, is.2, tree_from_records S (at + 12) xs h.3)
tree_from_records S at (a_node byte below ∷ xs) h =
    let is = h.2 in
    (is.0, subst (CardsAt S at) is.1 h.1, is.2, tree_from_records S (at + 12) xs h.3)

-- there are as many siblings
pub sibling_count-as_tree : (xs : List Sibling) → sibling_count (as_tree xs) ≡ length xs
sibling_count-as_tree [] = refl
sibling_count-as_tree (a_leaf rule ∷ xs) = omega (arith, sibling_count-as_tree xs)
sibling_count-as_tree (a_node byte below ∷ xs) = omega (arith, sibling_count-as_tree xs)

-- the nodes of one sibling more
pub nodes-push : (xs : List Sibling) (x : Sibling) → node_count (as_tree (xs ++ x ∷ [])) ≡ node_count (as_tree xs) + sibling_nodes x
nodes-push [] (a_leaf rule) = refl
nodes-push [] (a_node byte below) = omega arith
nodes-push (a_leaf rule ∷ ys) x = omega (arith, nodes-push ys x)
nodes-push (a_node byte below ∷ ys) x = omega (arith, nodes-push ys x)

-- the leaves of one sibling more
pub leaf_count-push : (xs : List Sibling) (x : Sibling)
    → leaf_count (as_tree (xs ++ x ∷ [])) ≡ leaf_count (as_tree xs) + sibling_leaves x
leaf_count-push [] (a_leaf rule) = refl
leaf_count-push [] (a_node byte below) = omega arith
leaf_count-push (a_leaf rule ∷ ys) x = omega (arith, leaf_count-push ys x)
leaf_count-push (a_node byte below ∷ ys) x = omega (arith, leaf_count-push ys x)

-- the leaves at a path, with one sibling more
pub leaves-push : (path : List ℕ) (xs : List Sibling) (x : Sibling)
    → leaves_at path (as_tree (xs ++ x ∷ [])) ≡ leaves_at path (as_tree xs) ++ leaves_of path x
leaves-push [] [] (a_leaf rule) = refl
leaves-push (b ∷ path) [] (a_leaf rule) = refl
leaves-push [] [] (a_node byte below) = refl
leaves-push (b ∷ path) [] (a_node byte below) = append-nil (cond (eqb byte b) (leaves_at path below) [])
leaves-push [] (a_leaf rule ∷ ys) x = ap (λ l. rule ∷ l) (leaves-push [] ys x)
leaves-push (b ∷ path) (a_leaf rule ∷ ys) x = leaves-push (b ∷ path) ys x
leaves-push [] (a_node byte below ∷ ys) x = leaves-push [] ys x
leaves-push (b ∷ path) (a_node byte below ∷ ys) x =
    ap (λ l. cond (eqb byte b) (leaves_at path below) [] ++ l) (leaves-push (b ∷ path) ys x)
    ∙ sym (append_assoc (cond (eqb byte b) (leaves_at path below) []) (leaves_at (b ∷ path) (as_tree ys)) (leaves_of (b ∷ path) x))

-- the character of the last node of the siblings
abbrev pub last_byte : ℕ → List Sibling → ℕ
last_byte before [] = before
last_byte before (x ∷ xs) = last_byte (next_byte before x) xs

-- the last character, with one sibling more
pub last_byte-push : (before : ℕ) (xs : List Sibling) (x : Sibling) → last_byte before (xs ++ x ∷ []) ≡ next_byte (last_byte before xs) x
last_byte-push before [] x = refl
last_byte-push before (y ∷ ys) x = last_byte-push (next_byte before y) ys x

-- one sibling more after those in order
pub order-push : (before : ℕ) (xs : List Sibling) (x : Sibling) → InOrder before (as_tree xs)
    → InOrder (last_byte before xs) (as_tree (x ∷ [])) → InOrder before (as_tree (xs ++ x ∷ []))
order-push before [] x h i = i
order-push before (a_leaf rule ∷ ys) x h i = (h.0, order-push before ys x h.1 i)
order-push before (a_node byte below ∷ ys) x h i = (h.0, h.1, h.2, order-push byte ys x h.3 i)
