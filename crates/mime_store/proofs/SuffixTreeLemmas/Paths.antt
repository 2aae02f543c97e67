-- Entries that are split into groups: what is picked, and how many nodes they take.
use Rattle.std.proofs.Common.{◌≡◌, ℕ, ◌+◌, ◌<◌, true, false, cond, eqb, ◌&&◌, List, [], ◌∷◌, ◌++◌, length, drop, map, refl, sym, ap}
use Rattle.std.proofs.Common.{subst, ◌∙◌, append_assoc, arith, ⊎_elim, bytes_eq}
use Rattle.std.proofs.lemmas.Bool.{eq-eqb}
use Rattle.mime_store.specs.SuffixTree.{PathRule, pick, common, nodes, StartAll, ClearOf, PathLe, Rises, Fresh, first_byte}
use Rattle.mime_store.specs.Texts.{NoZero}
use Rattle.mime_base.specs.declared.database.rule.GlobRule.{GlobRule}

-- an entry without the first byte of its path
abbrev pub tail_of : PathRule → PathRule
tail_of e = (drop 1 e.0, e.1)

-- the rules at a path, over two lists
pub pick-append : (p : List ℕ) (es fs : List PathRule) → pick p (es ++ fs) ≡ pick p es ++ pick p fs
pick-append p [] fs = refl
pick-append p (e ∷ es) fs =
    ap (λ (x : List GlobRule). cond (bytes_eq e.0 p) (e.1 ∷ []) [] ++ x) (pick-append p es fs)
    ∙ sym (append_assoc (cond (bytes_eq e.0 p) (e.1 ∷ []) []) (pick p es) (pick p fs))

-- entries that begin with a byte have no empty path
pub pick_group_none : (b : ℕ) (es : List PathRule) → StartAll b es → pick [] es ≡ []
pick_group_none b [] h = refl
pick_group_none b (e ∷ es) h = rw h.1 (pick_group_none b es h.2)

-- the rules at a path, over entries that begin with a byte
pub pick_group : (b c : ℕ) (p : List ℕ) (es : List PathRule) → StartAll b es → pick (c ∷ p) es ≡ cond (eqb b c) (pick p (map tail_of es)) []
pick_group b c p [] h = elim (eqb b c) as (λ t. ◌≡◌ {A = List GlobRule} [] (cond t [] [])) [ true ↦ refl | false ↦ refl ]
pick_group b c p (e ∷ es) h =
    rw (h.1, pick_group b c p es h.2)
    (elim (eqb b c) as (λ t. cond (t && bytes_eq h.0 p) (e.1 ∷ []) [] ++ cond t (pick p (map tail_of es)) [] ≡ cond t
    (cond (bytes_eq h.0 p) (e.1 ∷ []) [] ++ pick p (map tail_of es)) []) [ true ↦ refl | false ↦ refl ])

-- the last path, or the one before them all
abbrev pub last_path : List ℕ → List PathRule → List ℕ
last_path before [] = before
last_path before (e ∷ es) = last_path e.0 es

-- the nodes of two lists, one after the other
pub nodes-append : (before : List ℕ) (es fs : List PathRule) → nodes before (es ++ fs) ≡ nodes before es + nodes (last_path before es) fs
nodes-append before [] fs = omega arith
nodes-append before (e ∷ es) fs = omega (arith, nodes-append e.0 es fs)

-- entries that begin otherwise share nothing with what comes before
pub clear_nodes : (b : ℕ) (k : List ℕ) (fs : List PathRule) → ClearOf b fs → nodes (b ∷ k) fs ≡ nodes [] fs
clear_nodes b k [] h = refl
clear_nodes b k (e ∷ es) h = rw (h k) refl

-- the last path of a group begins with its byte
pub last_starts : (b : ℕ) (k : List ℕ) (es : List PathRule) → StartAll b es → (k' : List ℕ) × (last_path (b ∷ k) es ≡ b ∷ k')
last_starts b k [] h = (k, refl)
last_starts b k (e ∷ es) h = rw h.1 (last_starts b h.0 es h.2)

-- a number equals itself
eqb_same : (b : ℕ) → eqb b b ≡ true
eqb_same b = eq-eqb b b refl

-- after one of the group, the first byte costs nothing
pub nodes_group : (b : ℕ) (k : List ℕ) (es : List PathRule) → StartAll b es → nodes (b ∷ k) es ≡ nodes k (map tail_of es)
nodes_group b k [] h = refl
nodes_group b k (e ∷ es) h =
    let ih = nodes_group b h.0 es h.2 in
    rw (h.1, eqb_same b, ih) (omega arith)

-- a group takes one record for its first byte
pub nodes_first : (b : ℕ) (es : List PathRule) → 0 < length es → StartAll b es → nodes [] es ≡ nodes [] (map tail_of es) + 1
nodes_first b [] lt h = absurd (omega arith)
nodes_first b (e ∷ es) lt h =
    let ih = nodes_group b h.0 es h.2 in
    rw (h.1, ih) (omega arith)

-- a group, and what comes after it
pub nodes_split : (b : ℕ) (gs fs : List PathRule) → 0 < length gs → StartAll b gs → ClearOf b fs
    → nodes [] (gs ++ fs) ≡ nodes [] (map tail_of gs) + 1 + nodes [] fs
nodes_split b [] fs lt h clear = absurd (omega arith)
nodes_split b (e ∷ es) fs lt h clear =
    let one = nodes_first b (e ∷ es) lt h in
    let two = nodes-append [] (e ∷ es) fs in
    let last : (k' : List ℕ) × (last_path e.0 es ≡ b ∷ k') = rw h.1 (last_starts b h.0 es h.2) in
    let three : nodes (last_path e.0 es) fs ≡ nodes [] fs = rw last.1 (clear_nodes b last.0 fs clear) in
    two ∙ ap (λ (n : ℕ). n + nodes (last_path e.0 es) fs) one ∙ ap (λ (n : ℕ). nodes [] (map tail_of (e ∷ es)) + 1 + n) three

-- the paths after the first of a list
pub rises_second : (before : List ℕ) (gs fs : List PathRule) → Rises before (gs ++ fs) → Rises (last_path before gs) fs
rises_second before [] fs h = h
rises_second before (e ∷ es) fs h = rises_second e.0 es fs h.2

-- the first of rising entries rise
pub rises_first : (before : List ℕ) (gs fs : List PathRule) → Rises before (gs ++ fs) → Rises before gs
rises_first before [] fs h = tt
rises_first before (e ∷ es) fs h = (h.0, h.1, rises_first e.0 es fs h.2)

-- two paths after the same first byte
le_tail : (b : ℕ) (xs ys : List ℕ) → PathLe (b ∷ xs) (b ∷ ys) → PathLe xs ys
le_tail b xs ys h = ⊎_elim (λ lt. absurd (omega (arith, lt))) (λ s. s.1) h

-- in a group the rest of the paths rise
pub rises_tails : (b : ℕ) (k : List ℕ) (es : List PathRule) → StartAll b es → Rises (b ∷ k) es → Rises k (map tail_of es)
rises_tails b k [] s h = tt
rises_tails b k (e ∷ es) s h =
    let le : PathLe (b ∷ k) (b ∷ s.0) = subst (PathLe (b ∷ k)) s.1 h.0 in
    let nz : NoZero (b ∷ s.0) = subst NoZero s.1 h.1 in
    let more : Rises (b ∷ s.0) es = subst (λ (p : List ℕ). Rises p es) s.1 h.2 in
    let is : drop 1 e.0 ≡ s.0 = ap (drop 1) s.1 in (
      subst (PathLe k) (sym is) (le_tail b k s.0 le),
      subst NoZero (sym is) nz.1,
      subst (λ (p : List ℕ). Rises p (map tail_of es)) (sym is) (rises_tails b s.0 es s.2 more),
    )

-- a group rises after its first byte
pub rises_below : (b : ℕ) (before : List ℕ) (es : List PathRule) → StartAll b es → Rises before es → Rises [] (map tail_of es)
rises_below b before [] s h = tt
rises_below b before (e ∷ es) s h =
    let nz : NoZero (b ∷ s.0) = subst NoZero s.1 h.1 in
    let more : Rises (b ∷ s.0) es = subst (λ (p : List ℕ). Rises p es) s.1 h.2 in
    let is : drop 1 e.0 ≡ s.0 = ap (drop 1) s.1 in
    (tt, subst NoZero (sym is) nz.1, subst (λ (p : List ℕ). Rises p (map tail_of es)) (sym is) (rises_tails b s.0 es s.2 more))

-- a path that rises above one that it doesn't go on from has a greater first byte
pub fresh_byte : (before : List ℕ) (b : ℕ) (k : List ℕ) → PathLe before (b ∷ k) → 0 < b → common before (b ∷ k) ≡ 0 → first_byte before < b
fresh_byte [] b k le pos e = pos
fresh_byte (x ∷ xs) b k le pos e =
    ⊎_elim (λ lt. lt) (λ s. let z : common (x ∷ xs) (b ∷ k) ≡ common xs k + 1 = rw (eq-eqb x b s.0) refl in absurd (omega (arith, z, e))) le

-- what begins otherwise is a new path
pub clear_fresh : (b : ℕ) (k : List ℕ) (fs : List PathRule) → ClearOf b fs → Fresh (b ∷ k) fs
clear_fresh b k [] h = tt
clear_fresh b k (e ∷ es) h = h k

-- the last path of a group
pub last_group : (b : ℕ) (before : List ℕ) (gs : List PathRule) → 0 < length gs → StartAll b gs → (k : List ℕ) × (last_path before gs ≡ b ∷ k)
last_group b before [] lt h = absurd (omega arith)
last_group b before (e ∷ es) lt h = rw h.1 (last_starts b h.0 es h.2)
