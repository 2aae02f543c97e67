-- A block of siblings of the suffix tree is searched by their characters.
use Rattle.std.proofs.Common.{◌≡◌, ℕ, zero, suc, ◌+◌, ◌*◌, ◌<◌, ◌≤◌, ◌==◌, false, List, refl, sym, subst, ◌∙◌, arith, eq-eqb}
use Rattle.std.proofs.Math.Arith.{lt_of_le-ne}
use Rattle.std.proofs.lemmas.Bool.{eqb-true, false_from_ne_true}
use Rattle.mime_base.specs.Cache.Bytes.{field}
use Rattle.mime_base.specs.Format.Tree.{InOrder, Tree, bare, leaf, node, sibling_count}
use Rattle.mime_view.specs.Magic.{LiesBlock}
use Rattle.mime_view.specs.SuffixTree.{IsCharacterPlace, ReadsBlock, ReadsTree, below_character}
use Rattle.mime_view.specs.declared.suffixes.Siblings.{Siblings}

-- two numbers that differ
apart : (a b : ℕ) → (a ≡ b → ⊥) → (a == b) ≡ false
apart a b differ = false_from_ne_true (a == b) (λ is. differ (eqb-true a b is))

-- after a character each sibling has a greater one
above : (c : List ℕ) (at before : ℕ) (tree : Tree) (i : ℕ) → 0 < before → InOrder before tree → ReadsTree c at tree → i < sibling_count tree
    → before < field c (at + 12 * i) 0
above c at before bare i some order reads l = absurd (omega arith)
above c at before (leaf rule rest) i some order reads l = absurd (omega (arith, order.0))
above c at before (node character below rest) zero some order reads l =
    let e : at + 12 * 0 ≡ at = omega arith in
    rw e (omega (arith, order.0, reads.0))
above c at before (node character below rest) (suc i) some order reads l =
    let e : at + 12 * suc i ≡ at + 12 + 12 * i = omega arith in
    let greater = above c (at + 12) character rest i (omega (arith, order.0)) order.3 reads.4 (omega arith) in
    rw e (omega (arith, order.0, greater))

-- no sibling after one of this character, or of a greater one, has it
pub below_character-past : (b before : ℕ) (tree : Tree) → b ≤ before → InOrder before tree → below_character b tree ≡ bare
below_character-past b before bare l order = refl
below_character-past b before (leaf rule rest) l order = below_character-past b before rest l order.1
below_character-past b before (node character below rest) l order =
    rw (apart character b (λ is. omega (arith, order.0))) (below_character-past b character rest (omega (arith, order.0)) order.3)

-- what is said of the sibling before a place, said of those after the first
before_shifted : (c : List ℕ) (at b place : ℕ) → ((i : ℕ) → i + 1 ≡ suc place → field c (at + 12 * i) 0 < b)
    → (i : ℕ) → i + 1 ≡ place → field c (at + 12 + 12 * i) 0 < b
before_shifted c at b place less i is =
    let e : at + 12 * (i + 1) ≡ at + 12 + 12 * i = omega arith in
    subst (λ (n : ℕ). field c n 0 < b) e (less (i + 1) (omega arith))

-- the character of a node before a place
lesser : (c : List ℕ) (at b character place : ℕ) (rest : Tree) → 0 < character → field c at 0 ≡ character
    → InOrder character rest → ReadsTree c (at + 12) rest → place ≤ sibling_count rest
    → ((i : ℕ) → i + 1 ≡ suc place → field c (at + 12 * i) 0 < b) → character < b
lesser c at b character zero rest some here order reads within less =
    let e : at + 12 * 0 ≡ at = omega arith in
    let l : field c at 0 < b = subst (λ (n : ℕ). field c n 0 < b) e (less 0 (omega arith)) in
    omega arith
lesser c at b character (suc place) rest some here order reads within less =
    let greater = above c (at + 12) character rest place some order reads (omega arith) in
    let l = before_shifted c at b (suc place) less place (omega arith) in
    omega (arith, greater, l)

-- where the sibling before a place has a lesser character and the one at it a greater one, no sibling has it
pub below_character-none : (c : List ℕ) (at b place before : ℕ) (tree : Tree) → 0 < b → InOrder before tree → ReadsTree c at tree
    → place ≤ sibling_count tree → ((i : ℕ) → i + 1 ≡ place → field c (at + 12 * i) 0 < b)
    → (place < sibling_count tree → b < field c (at + 12 * place) 0) → below_character b tree ≡ bare
below_character-none c at b place before bare some order reads within less greater = refl
below_character-none c at b zero before (leaf rule rest) some order reads within less greater =
    let e : at + 12 * 0 ≡ at = omega arith in
    let l : b < field c at 0 = subst (λ (n : ℕ). b < field c n 0) e (greater (omega arith)) in
    absurd (omega (arith, reads.0.no_character))
below_character-none c at b (suc place) before (leaf rule rest) some order reads within less greater =
    let e : at + 12 * suc place ≡ at + 12 + 12 * place = omega arith in
    below_character-none c (at + 12) b place before rest some order.1 reads.1 (omega arith) (before_shifted c at b place less)
    (λ l. subst (λ (n : ℕ). b < field c n 0) e (greater (omega arith)))
below_character-none c at b zero before (node character below rest) some order reads within less greater =
    let e : at + 12 * 0 ≡ at = omega arith in
    let l : b < field c at 0 = subst (λ (n : ℕ). b < field c n 0) e (greater (omega arith)) in
    rw (apart character b (λ is. omega (arith, reads.0))) (below_character-past b character rest (omega (arith, reads.0)) order.3)
below_character-none c at b (suc place) before (node character below rest) some order reads within less greater =
    let e : at + 12 * suc place ≡ at + 12 + 12 * place = omega arith in
    let l = lesser c at b character place rest (omega (arith, order.0)) reads.0 order.3 reads.4 (omega arith) less in
    rw (apart character b (λ is. omega (arith, l)))
    (below_character-none c (at + 12) b place character rest some order.3 reads.4 (omega arith) (before_shifted c at b place less)
    (λ l. subst (λ (n : ℕ). b < field c n 0) e (greater (omega arith))))

-- the record at `at` is that of a node with these siblings below it
pub record ReadsNode (c : List ℕ) (at : ℕ) (below : Tree) : Type 0 where
  pub count : field c at 1 ≡ sibling_count below
  pub block : LiesBlock c (field c at 2) 12 (sibling_count below)
  pub siblings : ReadsTree c (field c at 2) below
  pub ordered : InOrder 0 below

-- the sibling of a character is the only one
pub below_character-found : (c : List ℕ) (at b place before : ℕ) (tree : Tree) → 0 < b → InOrder before tree → ReadsTree c at tree
    → place < sibling_count tree → field c (at + 12 * place) 0 ≡ b → ReadsNode c (at + 12 * place) (below_character b tree)
below_character-found c at b place before bare some order reads within is = absurd (omega arith)
below_character-found c at b zero before (leaf rule rest) some order reads within is =
    let e : at + 12 * 0 ≡ at = omega arith in
    let same : field c at 0 ≡ b = subst (λ (n : ℕ). field c n 0 ≡ b) e is in
    absurd (omega (arith, reads.0.no_character))
below_character-found c at b (suc place) before (leaf rule rest) some order reads within is =
    let e : at + 12 * suc place ≡ at + 12 + 12 * place = omega arith in
    let same : field c (at + 12 + 12 * place) 0 ≡ b = subst (λ (n : ℕ). field c n 0 ≡ b) e is in
    rw e (below_character-found c (at + 12) b place before rest some order.1 reads.1 (omega arith) same)
below_character-found c at b zero before (node character below rest) some order reads within is =
    let e : at + 12 * 0 ≡ at = omega arith in
    let same : field c at 0 ≡ b = subst (λ (n : ℕ). field c n 0 ≡ b) e is in
    rw e (rw (eq-eqb character b (omega (arith, reads.0)))
    (record { count = reads.1; block = reads.2; siblings = reads.3; ordered = order.2 }))
below_character-found c at b (suc place) before (node character below rest) some order reads within is =
    let e : at + 12 * suc place ≡ at + 12 + 12 * place = omega arith in
    let same : field c (at + 12 + 12 * place) 0 ≡ b = subst (λ (n : ℕ). field c n 0 ≡ b) e is in
    let greater = above c (at + 12) character rest place (omega (arith, order.0)) order.3 reads.4 (omega arith) in
    rw (e, apart character b (λ is. omega (arith, greater)))
    (below_character-found c (at + 12) b place character rest some order.3 reads.4 (omega arith) same)

-- a block without the character, by the place where it would stand
pub none_below : (c : List ℕ) (block : Siblings) (b place : ℕ) (tree : Tree) → 0 < b → ReadsBlock c block tree
    → IsCharacterPlace c block b place → (place < block.count → field c (block.first + 12 * place) 0 ≡ b → ⊥)
    → below_character b tree ≡ bare
none_below c block b place tree some reads is other =
    below_character-none c block.first b place 0 tree some reads.ordered reads.siblings (omega (arith, reads.size, is.within)) is.before
    (λ within. let l : place < block.count = omega (arith, reads.size) in lt_of_le-ne (is.after l) (λ e. other l (sym e)))

-- a block with the character, at this place
pub node_below : (c : List ℕ) (block : Siblings) (b place : ℕ) (tree : Tree) → 0 < b → ReadsBlock c block tree
    → IsCharacterPlace c block b place → (place ≡ block.count → ⊥) → field c (block.first + 12 * place) 0 ≡ b
    → ReadsNode c (block.first + 12 * place) (below_character b tree)
node_below c block b place tree some reads is within same =
    let l : place < block.count = lt_of_le-ne is.within within in
    below_character-found c block.first b place 0 tree some reads.ordered reads.siblings (omega (arith, reads.size)) same

-- a node is read as the block below it
pub block_read : (c : List ℕ) (at : ℕ) (block : Siblings) (tree : Tree) → block.first ≡ field c at 2 → block.count ≡ field c at 1
    → ReadsNode c at tree → ReadsBlock c block tree
block_read c at block tree first count reads = record {
  size = sym reads.count ∙ sym count;
  siblings = subst (λ (n : ℕ). ReadsTree c n tree) (sym first) reads.siblings;
  ordered = reads.ordered;
}
