-- A suffix tree that stands in a cache reads back, with the ending that leads to each node.
use Rattle.std.proofs.Common.{◌≡◌, ℕ, ◌+◌, ◌*◌, ◌<◌, ◌≤◌, List, [], ◌∷◌, ◌++◌, length, get_or, map}
use Rattle.std.proofs.Common.{append_assoc, length-append, sym, ap, subst, ◌∙◌, arith}
use Rattle.std.specs.Prelude.{reverse}
use Rattle.std.specs.List.{All}
use Rattle.std.proofs.lemmas.List.{append-nil, length-map, length-reverse, reverse-append, reverse-reverse}
use Rattle.std.proofs.lemmas.List.Elements.{All-cons, All-head, All-nil, All-tail}
use Rattle.mime_base.specs.Cache.Bytes.{Stands, field, fields}
use Rattle.mime_base.specs.Cache.Texts.{text_at}
use Rattle.mime_base.specs.Format.Stored.{weight_and_flags}
use Rattle.mime_base.specs.Format.Tree.{InOrder, Tree, TreeAt, bare, leaf, node, sibling_count}
use Rattle.mime_base.proofs.FormatLemmas.TreeLeaves.{Leaf, leaves, length-leaves, path_of, rule_of, under}
use Rattle.mime_view.specs.Listing.Reads.{ReadsListedTree}
use Rattle.mime_view.proofs.ListLemmas.Records.{numbers_read, record_inside, text_read}
use Rattle.mime_view.proofs.SuffixTreeLemmas.EndedRules.{IsEnded}

-- siblings lie in the cache
tree_inside : (c : List ℕ) (at : ℕ) (tree : Tree) → at ≤ length c → TreeAt (Stands c) at tree → at + 12 * sibling_count tree ≤ length c
tree_inside c at bare low stand = omega arith
tree_inside c at (leaf rule rest) low (kind, here, text, later) =
    let inside : at + 4 * 3 ≤ length c = record_inside c at (0 ∷ kind ∷ weight_and_flags rule ∷ []) here in
    omega (arith, tree_inside c (at + 12) rest (omega arith) later)
tree_inside c at (node character below rest) low (first, here, inner, later) =
    let inside : at + 4 * 3 ≤ length c = record_inside c at (character ∷ sibling_count below ∷ first ∷ []) here in
    omega (arith, tree_inside c (at + 12) rest (omega arith) later)

-- also where their offset is not known to lie there
pub siblings_inside : (c : List ℕ) (at : ℕ) (tree : Tree) → TreeAt (Stands c) at tree → 0 < sibling_count tree → at + 12 * sibling_count tree ≤ length c
siblings_inside c at bare stand some = absurd (omega arith)
siblings_inside c at (leaf rule rest) stand some =
    let inside : at + 4 * 3 ≤ length c = record_inside c at (0 ∷ stand.0 ∷ weight_and_flags rule ∷ []) stand.1 in
    tree_inside c at (leaf rule rest) (omega arith) stand
siblings_inside c at (node character below rest) stand some =
    let inside : at + 4 * 3 ≤ length c = record_inside c at (character ∷ sibling_count below ∷ stand.0 ∷ []) stand.1 in
    tree_inside c at (node character below rest) (omega arith) stand

-- what holds of all leaves holds of those of a part
All-front : (P : Leaf → Type 0) (xs ys : List Leaf) → All P (xs ++ ys) → All P xs
All-front P [] ys all = All-nil P
All-front P (x ∷ xs) ys all = All-cons P x xs (All-head P x (xs ++ ys) all) (All-front P xs ys (All-tail P x (xs ++ ys) all))

-- and of those of the other part
All-back : (P : Leaf → Type 0) (xs ys : List Leaf) → All P (xs ++ ys) → All P ys
All-back P [] ys all = all
All-back P (x ∷ xs) ys all = All-back P xs ys (All-tail P x (xs ++ ys) all)

-- what holds of leaves under a character holds of each under it
All-under : (P : Leaf → Type 0) (character : ℕ) (xs : List Leaf) → All P (map (under character) xs) → All (λ x. P (under character x)) xs
All-under P character [] all = All-nil (λ x. P (under character x))
All-under P character (x ∷ xs) all =
    All-cons (λ x. P (under character x)) x xs (All-head P (under character x) (map (under character) xs) all)
    (All-under P character xs (All-tail P (under character x) (map (under character) xs) all))

-- each leaf's rule ends at the path to it, which goes on from an ending
abbrev pub GoesOn : List ℕ → Leaf → Type 0
GoesOn ending x = IsEnded (reverse ending ++ path_of x) (rule_of x)

-- a leaf under a character goes on from the ending with it
one_on : (character : ℕ) (ending : List ℕ) (x : Leaf) → GoesOn ending (under character x) → GoesOn (character ∷ ending) x
one_on character ending x end =
    let e : reverse ending ++ (character ∷ path_of x) ≡ reverse (character ∷ ending) ++ path_of x =
    sym (append_assoc (reverse ending) (character ∷ []) (path_of x))
    ∙ ap (λ (xs : List ℕ). xs ++ path_of x) (sym (reverse-append (character ∷ []) ending)) in
    subst (λ (path : List ℕ). IsEnded path (rule_of x)) e end

-- a node that leads to a leaf is a byte, and not the last that may be
record IsCharacter (character : ℕ) (ending : List ℕ) : Type 0 where
  byte : character < 256
  depth : length ending < 254

-- the character above leaves that go on is such a one
leads : (character : ℕ) (ending : List ℕ) (xs : List Leaf) → 0 < length xs → All (λ x. GoesOn ending (under character x)) xs
    → IsCharacter character ending
leads character ending [] some all = absurd (omega arith)
leads character ending (x ∷ xs) some all =
    let end = All-head (λ x. GoesOn ending (under character x)) x xs all in
    let size = length-append (reverse ending) (character ∷ path_of x) in
    let short = end.short in
    record {
      byte = All-head (λ b. b < 256) character (path_of x) (back (reverse ending) (character ∷ path_of x) end.bytes);
      depth = omega (arith, length-reverse ending);
    }
  where
    back : (front rest : List ℕ) → All (λ b. b < 256) (front ++ rest) → All (λ b. b < 256) rest
    back [] rest all = all
    back (b ∷ front) rest all = back front rest (All-tail (λ b. b < 256) b (front ++ rest) all)

-- siblings that stand are read, with what is below them
pub tree_read : (c : List ℕ) (at : ℕ) (ending : List ℕ) (before : ℕ) (tree : Tree) → TreeAt (Stands c) at tree → InOrder before tree
    → All (GoesOn ending) (leaves tree) → ReadsListedTree c at ending tree
tree_read c at ending before bare stand order all = tt
tree_read c at ending before (leaf rule rest) (kind, here, text, later) order all =
    let read = numbers_read c at (0 ∷ kind ∷ weight_and_flags rule ∷ []) here in
    let number : (i : ℕ) → get_or (fields c at 3) i 0 ≡ get_or (0 ∷ kind ∷ weight_and_flags rule ∷ []) i 0 =
    λ i. ap (λ (ns : List ℕ). get_or ns i 0) read in
    let at_kind : field c at 1 ≡ kind = number 1 in
    let end = All-head (GoesOn ending) ([], rule) (leaves rest) all in
    let path : reverse ending ++ [] ≡ reverse ending = append-nil (reverse ending) in
    let some = end.some in (
      number 0,
      record {
        some = omega (arith, ap (λ (xs : List ℕ). length xs) path, length-reverse ending);
        kind = ap (text_at c) at_kind ∙ text_read c kind rule.kind text;
        flags = number 2;
        weight = end.weight;
        text = end.text ∙ ap (λ (xs : List ℕ). 42 ∷ xs) (ap (λ (xs : List ℕ). reverse xs) path ∙ reverse-reverse ending);
      },
      tree_read c (at + 12) ending before rest later order.1 (All-tail (GoesOn ending) ([], rule) (leaves rest) all),
    )
tree_read c at ending before (node character below rest) (first, here, inner, later) order all =
    let read = numbers_read c at (character ∷ sibling_count below ∷ first ∷ []) here in
    let number : (i : ℕ) → get_or (fields c at 3) i 0 ≡ get_or (character ∷ sibling_count below ∷ first ∷ []) i 0 =
    λ i. ap (λ (ns : List ℕ). get_or ns i 0) read in
    let at_first : field c at 2 ≡ first = number 2 in
    let under_all = All-under (GoesOn ending) character (leaves below)
    (All-front (GoesOn ending) (map (under character) (leaves below)) (leaves rest) all) in
    let some : 0 < length (leaves below) =
    omega (arith, order.1, length-leaves below, length-map (leaves below) rule_of) in
    let is = leads character ending (leaves below) some under_all in (
      number 0,
      omega (arith, order.0),
      is.byte,
      is.depth,
      number 1,
      rw at_first (record { inside = λ some. siblings_inside c first below inner some }),
      rw at_first (tree_read c first (character ∷ ending) 0 below inner order.2
          (λ k d l. one_on character ending (get_or (leaves below) k d) (under_all k d l))),
      tree_read c (at + 12) ending character rest later order.3
          (All-back (GoesOn ending) (map (under character) (leaves below)) (leaves rest) all),
    )
