-- Trees that stand at one place have the same leaves at each path, as far as their records say.
use Rattle.std.proofs.Common.{◌≡◌, ℕ, ◌+◌, ◌==◌, Bool, true, false, cond, List, [], ◌∷◌, map, refl, sym, ap₂, subst, arith}
use Rattle.mime_base.specs.Cache.Bytes.{Stands}
use Rattle.mime_base.specs.Format.Stored.{weight_and_flags}
use Rattle.mime_base.specs.Format.Tree.{InOrder, Tree, TreeAt, bare, leaf, leaves_at, node, sibling_count}
use Rattle.mime_base.specs.declared.database.rule.GlobRule.{GlobRule}
use Rattle.mime_load.proofs.NextRecords.{same_text}
use Rattle.mime_load.proofs.SameLemmas.{same_numbers}
use Rattle.mime_lookup.proofs.SpellingLemmas.Mapped.{appends-alike}
use Rattle.mime_lookup.proofs.SpellingLemmas.Records.{three_numbers}

-- what the record of a leaf says of its rule
abbrev pub leaf_record : GlobRule → List ℕ × ℕ
leaf_record rule = (rule.kind, weight_and_flags rule)

-- the leaves of two trees at a path are alike
abbrev pub AlikeAt : List ℕ → Tree → Tree → Type 0
AlikeAt path one other = map leaf_record (leaves_at path one) ≡ map leaf_record (leaves_at path other)

-- leaves in front of trees that are alike
leaves-alike : (one other : GlobRule) (rest others : Tree) → leaf_record one ≡ leaf_record other → (path : List ℕ)
    → AlikeAt path rest others → AlikeAt path (leaf one rest) (leaf other others)
leaves-alike one other rest others same [] alike = ap₂ (λ (x : List ℕ × ℕ) (xs : List (List ℕ × ℕ)). x ∷ xs) same alike
leaves-alike one other rest others same (b ∷ path) alike = alike

-- nodes of one character in front of trees that are alike
nodes-alike : (character character' : ℕ) (below below' rest rest' : Tree) → character ≡ character'
    → ((path : List ℕ) → AlikeAt path below below') → ((path : List ℕ) → AlikeAt path rest rest') → (path : List ℕ)
    → AlikeAt path (node character below rest) (node character' below' rest')
nodes-alike character character' below below' rest rest' same down behind [] = behind []
nodes-alike character character' below below' rest rest' same down behind (b ∷ path) =
    subst (λ (k : ℕ). AlikeAt (b ∷ path) (node character below rest) (node k below' rest')) same
    (appends-alike leaf_record (here below) (here below') (leaves_at (b ∷ path) rest) (leaves_at (b ∷ path) rest')
    (by_first (character == b)) (behind (b ∷ path)))
  where
    here : Tree → List GlobRule
    here tree = cond (character == b) (leaves_at path tree) []

    by_first : (t : Bool) → map leaf_record (cond t (leaves_at path below) []) ≡ map leaf_record (cond t (leaves_at path below') [])
    by_first true = down path
    by_first false = refl

-- trees with as many siblings that stand at one place
pub same_leaves : (c : List ℕ) (at m n : ℕ) (one other : Tree) → sibling_count one ≡ sibling_count other → TreeAt (Stands c) at one
    → TreeAt (Stands c) at other → InOrder m one → InOrder n other → (path : List ℕ) → AlikeAt path one other
same_leaves c at m n bare bare count s t order order' path = refl
same_leaves c at m n bare (leaf rule rest) count s t order order' path = absurd (omega arith)
same_leaves c at m n bare (node b below rest) count s t order order' path = absurd (omega arith)
same_leaves c at m n (leaf rule rest) bare count s t order order' path = absurd (omega arith)
same_leaves c at m n (node b below rest) bare count s t order order' path = absurd (omega arith)
same_leaves c at m n (leaf rule rest) (node b below rest') count s t order order' path =
    let same = three_numbers 0 s.0 (weight_and_flags rule) b (sibling_count below) t.0 (same_numbers c at _ _ refl s.1 t.1) in
    absurd (omega (arith, same.first, order'.0))
same_leaves c at m n (node b below rest) (leaf rule rest') count s t order order' path =
    let same = three_numbers b (sibling_count below) s.0 0 t.0 (weight_and_flags rule) (same_numbers c at _ _ refl s.1 t.1) in
    absurd (omega (arith, same.first, order.0))
same_leaves c at m n (leaf rule rest) (leaf rule' rest') count s t order order' path =
    let same = three_numbers 0 s.0 (weight_and_flags rule) 0 t.0 (weight_and_flags rule') (same_numbers c at _ _ refl s.1 t.1) in
    let type : rule.kind ≡ rule'.kind = same_text c s.0 t.0 rule.kind rule'.kind same.second s.2 t.2 in
    leaves-alike rule rule' rest rest' (ap₂ (λ (k : List ℕ) (n : ℕ). (k, n)) type same.third) path
    (same_leaves c (at + 12) m n rest rest' (omega arith) s.3 t.3 order.1 order'.1 path)
same_leaves c at m n (node b below rest) (node b' below' rest') count s t order order' path =
    let same = three_numbers b (sibling_count below) s.0 b' (sibling_count below') t.0 (same_numbers c at _ _ refl s.1 t.1) in
    let deeper : TreeAt (Stands c) s.0 below' = subst (λ (k : ℕ). TreeAt (Stands c) k below') (sym same.third) t.2 in
    nodes-alike b b' below below' rest rest' same.first (same_leaves c s.0 0 0 below below' same.second s.2 deeper order.2 order'.2)
    (same_leaves c (at + 12) b b' rest rest' (omega arith) s.3 t.3 order.3 order'.3) path
