-- The leaves of a tree in order stand in the order of their paths.
use Rattle.std.proofs.Common.{◌≡◌, ℕ, zero, suc, ◌+◌, ◌<◌, ◌≤◌, Bool, false, List, [], ◌∷◌, ◌++◌, length}
use Rattle.std.proofs.Common.{get_or, map, refl, subst, arith}
use Rattle.std.specs.List.{All}
use Rattle.std.specs.List.Sorted.{IsSortedBy}
use Rattle.std.proofs.lemmas.Bool.{eq-eqb, le-ltb, ne_eqb}
use Rattle.std.proofs.lemmas.List.Elements.{All-append, All-head, All-map, All-nil, All-tail}
use Rattle.mime_base.specs.Format.Sorted.{text_lt}
use Rattle.mime_base.specs.Format.Stored.{reversed_ending}
use Rattle.mime_base.specs.Format.Tree.{InOrder, Tree, bare, leaf, node}
use Rattle.mime_base.specs.declared.database.rule.GlobRule.{GlobRule}
use Rattle.mime_base.proofs.FormatLemmas.TreeLeaves.{Leaf, leaves, path_of, rule_of, under}

-- no text is before the empty one
not_before_none : (text : List ℕ) → text_lt text [] ≡ false
not_before_none [] = refl
not_before_none (b ∷ text) = refl

-- a first character that both have decides nothing
same_first : (character : ℕ) (a b : List ℕ) → text_lt (character ∷ a) (character ∷ b) ≡ text_lt a b
same_first character a b = rw (le-ltb character character (omega arith), eq-eqb character character refl) refl

-- a text is not before one with a lesser first character
greater_first : (x y : ℕ) (a b : List ℕ) → y < x → text_lt (x ∷ a) (y ∷ b) ≡ false
greater_first x y a b l =
    let other : x ≡ y → ⊥ = λ e. omega (arith, e) in
    rw (le-ltb x y (omega arith), ne_eqb x y other) refl

-- this leaf is not before another
abbrev NotBefore : Leaf → Leaf → Type 0
NotBefore earlier later = text_lt (path_of later) (path_of earlier) ≡ false

-- no later leaf is before an earlier one
abbrev Rising : List Leaf → Type 0
Rising [] = Unit {0}
Rising (x ∷ xs) = All (NotBefore x) xs × Rising xs

-- leaves that rise, and others that rise after them
Rising-append : (xs ys : List Leaf) → Rising xs → Rising ys → All (λ x. All (NotBefore x) ys) xs → Rising (xs ++ ys)
Rising-append [] ys r s across = s
Rising-append (x ∷ xs) ys r s across = (
  All-append (NotBefore x) xs ys r.0 (All-head (λ x. All (NotBefore x) ys) x xs across),
  Rising-append xs ys r.1 s (All-tail (λ x. All (NotBefore x) ys) x xs across),
)

-- leaves that rise, all under one character
Rising-under : (character : ℕ) (xs : List Leaf) → Rising xs → Rising (map (under character) xs)
Rising-under character [] r = tt
Rising-under character (x ∷ xs) r = (
  All-map (NotBefore (under character x)) (under character) xs
      (λ k d l. rw (same_first character (get_or xs k d).0 x.0) (r.0 k d l)),
  Rising-under character xs r.1,
)

-- after a node, no leaf is before one that begins with its character, or with a lesser one
after_node : (least before : ℕ) (x : Leaf) (path : List ℕ) (tree : Tree) → path_of x ≡ least ∷ path → 0 < least → least ≤ before
    → InOrder before tree → All (NotBefore x) (leaves tree)
after_node least before x path bare is some l order = All-nil (NotBefore x)
after_node least before x path (leaf rule rest) is some l order = absurd (omega (arith, order.0))
after_node least before x path (node character below rest) is some l order =
    All-append (NotBefore x) (map (under character) (leaves below)) (leaves rest)
    (All-map (NotBefore x) (under character) (leaves below)
    (λ k d w. rw is (greater_first character least (get_or (leaves below) k d).0 path (omega (arith, order.0)))))
    (after_node least character x path rest is some (omega (arith, order.0)) order.3)

-- the leaves of a tree in order rise
rising : (before : ℕ) (tree : Tree) → InOrder before tree → Rising (leaves tree)
rising before bare order = tt
rising before (leaf rule rest) order = (λ k d l. not_before_none (get_or (leaves rest) k d).0, rising before rest order.1)
rising before (node character below rest) order =
    Rising-append (map (under character) (leaves below)) (leaves rest) (Rising-under character (leaves below) (rising 0 below order.2))
    (rising character rest order.3)
    (All-map (λ x. All (NotBefore x) (leaves rest)) (under character) (leaves below)
    (λ k d l. after_node character character (under character (get_or (leaves below) k d)) (get_or (leaves below) k d).0 rest refl
    (omega (arith, order.0)) (omega arith) order.3))

-- a first member that the next is not before
sorted_first : {X : Type 0} (lt : X → X → Bool) (x : X) (xs : List X) → ((d : X) → 0 < length xs → lt (get_or xs 0 d) x ≡ false)
    → IsSortedBy lt xs → (k : ℕ) (d : X) → 0 ≤ k → k + 1 < length (x ∷ xs)
    → lt (get_or (x ∷ xs) (k + 1) d) (get_or (x ∷ xs) k d) ≡ false
sorted_first lt x xs first rest zero d low within = first d (omega (arith, within))
sorted_first lt x xs first rest (suc k) d low within =
    let e : suc (k + 1) ≡ suc k + 1 = omega arith in
    subst (λ (n : ℕ). lt (get_or (x ∷ xs) n d) (get_or xs k d) ≡ false) e (rest k d (omega arith) (omega (arith, within)))

-- one rule is before another by its ending
abbrev pub ends_before : GlobRule → GlobRule → Bool
ends_before left right = text_lt (reversed_ending left) (reversed_ending right)

-- each leaf's path is its rule's ending
abbrev pub Keyed : Leaf → Type 0
Keyed x = reversed_ending (rule_of x) ≡ path_of x

-- the second rule of leaves that rise is not before the first
first_rising : (x : Leaf) (xs : List Leaf) → Rising (x ∷ xs) → All Keyed (x ∷ xs) → (d : GlobRule) → 0 < length (map rule_of xs)
    → ends_before (get_or (map rule_of xs) 0 d) (rule_of x) ≡ false
first_rising x [] r keyed d some = absurd (omega arith)
first_rising x (y ∷ ys) r keyed d some =
    let here : reversed_ending (rule_of x) ≡ path_of x = All-head Keyed x (y ∷ ys) keyed in
    let next : reversed_ending (rule_of y) ≡ path_of y = All-head Keyed y ys (All-tail Keyed x (y ∷ ys) keyed) in
    rw (here, next) (All-head (NotBefore x) y ys r.0)

-- the rules of leaves that rise are sorted by their endings
sorted_rules : (xs : List Leaf) → Rising xs → All Keyed xs → IsSortedBy ends_before (map rule_of xs)
sorted_rules [] r keyed = λ k d low within. absurd (omega arith)
sorted_rules (x ∷ xs) r keyed =
    sorted_first ends_before (rule_of x) (map rule_of xs) (first_rising x xs r keyed)
    (sorted_rules xs r.1 (All-tail Keyed x xs keyed))

-- the rules of a tree in order are sorted by their endings
pub leaves_sorted : (tree : Tree) → InOrder 0 tree → All Keyed (leaves tree) → IsSortedBy ends_before (map rule_of (leaves tree))
leaves_sorted tree order keyed = sorted_rules (leaves tree) (rising 0 tree order) keyed
