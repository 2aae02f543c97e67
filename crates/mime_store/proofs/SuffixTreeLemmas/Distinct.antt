-- The distinct fronts of paths.
use Rattle.std.proofs.Common.{◌≡◌, ℕ, ◌+◌, Bool, true, false, ◌&&◌, ◌||◌, cond, eqb, List, [], ◌∷◌, ◌++◌}
use Rattle.std.proofs.Common.{length, map, refl, sym, ap, ◌∙◌, arith, bytes_eq}
use Rattle.std.proofs.Math.Path.{fun_ext}
use Rattle.std.specs.List.{list_any, flat_map, IsDistinct, AllByRecursion}
use Rattle.std.specs.Set.{distinct_count, unique_keys, is_member}
use Rattle.std.proofs.lemmas.List.Folds.{list_any-append}
use Rattle.std.proofs.lemmas.Bool.{eq-eqb}
use Rattle.mime_store.specs.SuffixTree.{PathRule}
use Rattle.mime_base.specs.Format.SuffixTree.{front_count, fronts}

-- the paths of entries
abbrev pub paths : List PathRule → List (List ℕ)
paths es = map (λ e. e.0) es

-- the fronts of all their paths
abbrev pub all_fronts : List PathRule → List (List ℕ)
all_fronts es = flat_map fronts (paths es)

-- how many fronts they have, each counted once
abbrev pub endings_count : List PathRule → ℕ
endings_count es = front_count (paths es)

-- how many of a list are not members
abbrev pub missing : (List ℕ → Bool) → List (List ℕ) → ℕ
missing test [] = 0
missing test (x ∷ xs) = cond (test x) 0 1 + missing test xs

-- what a test misses of paths that all begin with a byte
pub missing-map : (x : ℕ) (test : List ℕ → Bool) (ps : List (List ℕ)) → missing test (map (λ p. x ∷ p) ps) ≡ missing (λ p. test (x ∷ p)) ps
missing-map x test [] = refl
missing-map x test (p ∷ ps) = ap (λ n. cond (test (x ∷ p)) 0 1 + n) (missing-map x test ps)

-- two tests that agree miss the same
pub missing-alike : (f g : List ℕ → Bool) (ps : List (List ℕ)) → ((p : List ℕ) → f p ≡ g p) → missing f ps ≡ missing g ps
missing-alike f g ps h = ap (λ (t : List ℕ → Bool). missing t ps) (fun_ext h)

-- what differs from all of them is none of them
member_none : (x : List ℕ) (xs : List (List ℕ)) → AllByRecursion (λ y. bytes_eq x y ≡ false) xs → list_any (bytes_eq x) xs ≡ false
member_none x [] h = refl
member_none x (y ∷ ys) h = rw h.0 (member_none x ys h.1)

-- of two lists one after the other, where the first has no two alike
pub distinct_append : (xs ys : List (List ℕ)) → IsDistinct bytes_eq xs
    → distinct_count bytes_eq (xs ++ ys) ≡ missing (is_member bytes_eq ys) xs + distinct_count bytes_eq ys
unfolding IsDistinct
distinct_append [] ys h = omega arith
distinct_append (x ∷ xs) ys h =
    let ih = distinct_append xs ys h.1 in
    let here : is_member bytes_eq (xs ++ ys) x ≡ is_member bytes_eq ys x = list_any-append (bytes_eq x) xs ys
    ∙ ap (λ (t : Bool). t || list_any (bytes_eq x) ys) (member_none x xs h.0) in
    rw here (elim (is_member bytes_eq ys x) as
    (λ t. length (cond t (unique_keys bytes_eq (xs ++ ys)) (x ∷ unique_keys bytes_eq (xs ++ ys))) ≡ cond t 0 1 + missing
    (is_member bytes_eq ys) xs + distinct_count bytes_eq ys)
    [ true ↦ omega (arith, ih) | false ↦ omega (arith, ih) ])

-- paths that begin with a byte are not empty
map_nonempty : (x : ℕ) (zs : List (List ℕ)) → AllByRecursion (λ y. bytes_eq [] y ≡ false) (map (λ p. x ∷ p) zs)
map_nonempty x [] = tt
map_nonempty x (z ∷ zs) = (refl, map_nonempty x zs)

-- no front is empty
fronts_nonempty : (k : List ℕ) → AllByRecursion (λ y. bytes_eq [] y ≡ false) (fronts k)
fronts_nonempty [] = tt
fronts_nonempty (x ∷ k) = (refl, map_nonempty x (fronts k))

-- paths that differ still do after one byte more
cons_apart : (x : ℕ) (q : List ℕ) (zs : List (List ℕ)) → AllByRecursion (λ y. bytes_eq q y ≡ false) zs
    → AllByRecursion (λ y. bytes_eq (x ∷ q) y ≡ false) (map (λ p. x ∷ p) zs)
cons_apart x q [] h = tt
cons_apart x q (z ∷ zs) h = (rw (eq-eqb x x refl) h.0, cons_apart x q zs h.1)

-- and so do all of several
map_distinct : (x : ℕ) (zs : List (List ℕ)) → IsDistinct bytes_eq zs → IsDistinct bytes_eq (map (λ p. x ∷ p) zs)
unfolding IsDistinct
map_distinct x [] h = tt
map_distinct x (z ∷ zs) h = (cons_apart x z zs h.0, map_distinct x zs h.1)

-- no two fronts of a path are the same
pub fronts_distinct : (k : List ℕ) → IsDistinct bytes_eq (fronts k)
unfolding IsDistinct
fronts_distinct [] = tt
fronts_distinct (x ∷ k) = (cons_apart x [] (fronts k) (fronts_nonempty k), map_distinct x (fronts k) (fronts_distinct k))

-- whether a path begins with p, and whether one of them does
abbrev pub begins : List ℕ → List ℕ → Bool
begins [] k = true
begins (x ∷ p) [] = false
begins (x ∷ p) (y ∷ k) = eqb x y && begins p k

-- whether some path begins so
abbrev pub has : List ℕ → List (List ℕ) → Bool
has p rs = list_any (begins p) rs

-- what is one of some paths with a first byte
member_map : (x y : ℕ) (p : List ℕ) (zs : List (List ℕ))
    → list_any (bytes_eq (x ∷ p)) (map (λ q. y ∷ q) zs) ≡ (eqb x y && list_any (bytes_eq p) zs)
member_map x y p [] = elim (eqb x y) as (λ t. false ≡ (t && false)) [ true ↦ refl | false ↦ refl ]
member_map x y p (z ∷ zs) =
    rw (member_map x y p zs)
    (elim (eqb x y) as (λ t. ((t && bytes_eq p z) || (t && list_any (bytes_eq p) zs)) ≡
    (t && (bytes_eq p z || list_any (bytes_eq p) zs))) [ true ↦ refl | false ↦ refl ])

-- what is a front of a path
member_fronts : (x : ℕ) (p k : List ℕ) → is_member bytes_eq (fronts k) (x ∷ p) ≡ begins (x ∷ p) k
member_fronts x p [] = refl
member_fronts x [] (y ∷ k) =
    rw (member_map x y [] (fronts k))
    (elim (eqb x y) as (λ t. ((t && true) || (t && list_any (bytes_eq []) (fronts k))) ≡ (t && true)) [ true ↦ refl | false ↦ refl ])
member_fronts x (z ∷ p) (y ∷ k) =
    rw (member_map x y (z ∷ p) (fronts k), member_fronts z p k)
    (elim (eqb x y) as (λ t. ((t && false) || (t && begins (z ∷ p) k)) ≡ (t && begins (z ∷ p) k)) [ true ↦ refl | false ↦ refl ])

-- what is a front of some path
member_all : (x : ℕ) (p : List ℕ) (es : List PathRule) → is_member bytes_eq (all_fronts es) (x ∷ p) ≡ has (x ∷ p) (paths es)
member_all x p [] = refl
member_all x p (e ∷ es) =
    list_any-append (bytes_eq (x ∷ p)) (fronts e.0) (all_fronts es)
    ∙ ap (λ (t : Bool). t || list_any (bytes_eq (x ∷ p)) (all_fronts es)) (member_fronts x p e.0)
    ∙ ap (λ (t : Bool). begins (x ∷ p) e.0 || t) (member_all x p es)

-- fronts that no other path has
pub missing_members : (k : List ℕ) (es : List PathRule)
    → missing (is_member bytes_eq (all_fronts es)) (fronts k) ≡ missing (λ p. has p (paths es)) (fronts k)
missing_members [] es = refl
missing_members (x ∷ k) es =
    missing-map x (is_member bytes_eq (all_fronts es)) ([] ∷ fronts k)
    ∙ missing-alike (λ p. is_member bytes_eq (all_fronts es) (x ∷ p)) (λ p. has (x ∷ p) (paths es)) ([] ∷ fronts k) (λ p. member_all x p es)
    ∙ sym (missing-map x (λ p. has p (paths es)) ([] ∷ fronts k))
