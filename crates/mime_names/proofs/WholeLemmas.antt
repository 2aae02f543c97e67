-- A name that asks for the key of the whole of a text, or of a general pattern's first byte, is near it; and the keys on a name's way.
use Rattle.std.proofs.Common.{◌≡◌, ◌⊎◌, inl, inr, ℕ, zero, suc, ◌+◌, ◌-◌, ◌<◌, ◌==◌, ◌||◌, Bool, true, false, List, [], ◌∷◌, length, drop}
use Rattle.std.proofs.Common.{refl, sym, ap, subst, ◌∙◌, arith}
use Rattle.std.specs.List.{Contains}
use Rattle.std.proofs.lemmas.Bool.{cases_lt, eq-eqb}
use Rattle.std.proofs.lemmas.List.{drop_all, length-drop, length-map}
use Rattle.std.proofs.lemmas.Slice.Eq.{bytes_eq-Decides}
use Rattle.mime_base.specs.Matching.Folding.{folded}
use Rattle.mime_base.specs.declared.kept.class.Class.{Class}
use Rattle.mime_base.specs.declared.kept.class.Class.TheVariants.{Literal, Suffix, Full}
use Rattle.mime_names.specs.Keys.{Fronts, IsEndKey, IsWholeKey, node_key}
use Rattle.mime_names.specs.Near.{begins_with, ends_with, first_byte, is_near}
use Rattle.mime_names.specs.Rules.{of_texts}
use Rattle.mime_names.specs.Tree.{IsAt, IsTree, next_of, spelled, symbol}
use Rattle.mime_names.specs.declared.tree.Tree.{Tree}
use Rattle.mime_names.proofs.TreeLemmas.{is_at-text}

-- a name ends with what is left of its symbols at a place
ends-so : (symbols name : List ℕ) (k : ℕ) → drop k (0 ∷ spelled name) ≡ symbols → ends_with symbols name ≡ true
ends-so symbols name k is =
    let all = 0 ∷ spelled name in
    let cut = length name + 1 - length symbols in
    let long : length all ≡ length name + 1 = omega (arith, length-map name symbol) in
    let size : length symbols ≡ length name + 1 - k = sym (ap length is) ∙ length-drop k all ∙ ap (λ n. n - k) long in
    let same : drop cut all ≡ symbols = elim (cases_lt k (length name + 1)) [
      | inl inside ↦ ap (λ n. drop n all) {x = cut} {y = k} (omega (arith, inside, size)) ∙ is
      | inr past ↦ drop_all cut all (omega (arith, long, size, past)) ∙ sym (drop_all k all (omega (arith, long, past))) ∙ is
    ] in
    (bytes_eq-Decides symbols (drop cut all)).1 (sym same)

-- either of two tests
or-right : (a b : Bool) → b ≡ true → (a || b) ≡ true
or-right true b is = refl
or-right false b is = is

-- a name begins so whose first byte has the key
begins-so : (name : List ℕ) (first key : ℕ) → key ≡ first → Fronts name key → begins_with first name ≡ true
begins-so [] first key is (inl any) = eq-eqb first 256 (sym is ∙ any)
begins-so [] first key is (inr begins) = absurd begins.1
begins-so (b ∷ name) first key is (inl any) = ap (λ t. t || (first == folded b)) (eq-eqb first 256 (sym is ∙ any))
begins-so (b ∷ name) first key is (inr begins) = or-right (first == 256) (first == folded b) (eq-eqb first (folded b) (sym is ∙ begins.1))

-- a key of the name is that of no other whole
pub near-whole : (tree : Tree) → IsTree tree → (class : Class) (pattern name : List ℕ) (key : ℕ) → (of_texts class ≡ false → key < 257) →
    IsWholeKey tree class pattern key → IsEndKey tree (spelled name) key ⊎ Fronts name key → is_near class pattern name ≡ true
near-whole tree is Literal pattern name key low whole (inl (inl ends)) =
    let one : ends.1 ≡ whole.0 = omega (arith, ends.3, whole.1) in
    ends-so (0 ∷ spelled pattern) name (suc ends.0)
    (is_at-text tree is (drop ends.0 (spelled name)) (0 ∷ spelled pattern) whole.0
    (subst (IsAt tree (drop ends.0 (spelled name))) one ends.4) whole.2)
near-whole tree is Literal pattern name key low whole (inl (inr all)) =
    let one : all.0 ≡ whole.0 = omega (arith, all.1, whole.1) in
    ends-so (0 ∷ spelled pattern) name 0
    (is_at-text tree is (0 ∷ spelled name) (0 ∷ spelled pattern) whole.0 (subst (IsAt tree (0 ∷ spelled name)) one all.2) whole.2)
near-whole tree is Literal pattern name key low whole (inr (inl any)) = absurd (omega (arith, any, whole.1))
near-whole tree is Literal pattern name key low whole (inr (inr begins)) = absurd (omega (arith, begins.0, whole.1))
near-whole tree is Suffix pattern name key low whole (inl (inl ends)) =
    let one : ends.1 ≡ whole.0 = omega (arith, ends.3, whole.1) in
    ends-so (spelled (drop 1 pattern)) name (suc ends.0)
    (is_at-text tree is (drop ends.0 (spelled name)) (spelled (drop 1 pattern)) whole.0
    (subst (IsAt tree (drop ends.0 (spelled name))) one ends.4) whole.2)
near-whole tree is Suffix pattern name key low whole (inl (inr all)) =
    let one : all.0 ≡ whole.0 = omega (arith, all.1, whole.1) in
    ends-so (spelled (drop 1 pattern)) name 0
    (is_at-text tree is (0 ∷ spelled name) (spelled (drop 1 pattern)) whole.0 (subst (IsAt tree (0 ∷ spelled name)) one all.2) whole.2)
near-whole tree is Suffix pattern name key low whole (inr (inl any)) = absurd (omega (arith, any, whole.1))
near-whole tree is Suffix pattern name key low whole (inr (inr begins)) = absurd (omega (arith, begins.0, whole.1))
near-whole tree is Full pattern name key low whole (inl (inl ends)) = absurd (omega (arith, low refl, ends.3))
near-whole tree is Full pattern name key low whole (inl (inr all)) = absurd (omega (arith, low refl, all.1))
near-whole tree is Full pattern name key low whole (inr front) = begins-so name (first_byte pattern) key whole front

-- the node to which symbols lead
abbrev node_of : Tree → List ℕ → ℕ
node_of tree [] = 0
node_of tree (s ∷ rest) = next_of tree (node_of tree rest) s

-- the keys of the nodes to which their endings lead
abbrev pub keys_on : Tree → List ℕ → List ℕ
keys_on tree [] = []
keys_on tree (s ∷ rest) = node_key (node_of tree (s ∷ rest)) ∷ keys_on tree rest

-- there is one for each symbol
pub length-keys_on : (tree : Tree) (text : List ℕ) → length (keys_on tree text) ≡ length text
length-keys_on tree [] = refl
length-keys_on tree (s ∷ rest) = ap suc (length-keys_on tree rest)

-- symbols lead nowhere else
node_of-is : (tree : Tree) (text : List ℕ) (at : ℕ) → IsAt tree text at → at ≡ node_of tree text
node_of-is tree [] at is = is
node_of-is tree (s ∷ rest) at is = sym is.3 ∙ ap (λ m. next_of tree m s) (node_of-is tree rest is.0 is.1)

-- each node to which an ending leads has its key there, but for the first
pub keys_on-has : (tree : Tree) (text : List ℕ) (k at : ℕ) → IsAt tree (drop k text) at → 0 < at →
    Contains (keys_on tree text) (node_key at)
keys_on-has tree [] zero at is some = absurd (omega (arith, is, some))
keys_on-has tree [] (suc k) at is some = absurd (omega (arith, is, some))
keys_on-has tree (s ∷ rest) zero at is some = (0, omega arith, ap node_key (sym (node_of-is tree (s ∷ rest) at is)))
keys_on-has tree (s ∷ rest) (suc k) at is some =
    let has = keys_on-has tree rest k at is some in
    (suc has.0, omega (arith, has.1), has.2)
