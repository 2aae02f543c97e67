-- Keys in a tree, each with the number of its name's end.
use Rattle.std.proofs.Common.{◌≡◌, ℕ, ◌==◌, Bool, true, false, ◌&&◌, ◌||◌, List, [], ◌∷◌, map, ap, ap₂, ◌∙◌, refl, sym, ⊎_elim}
use Rattle.std.proofs.Common.{Ordering, Less, Equal, Greater}
use Rattle.std.proofs.lemmas.Bool.{and_parts, cases_Bool, eq-eqb}
use Rattle.std.proofs.lemmas.Slice.Eq.{bytes_eq-Decides}
use Rattle.std.specs.Borrow.{Bor}
use Rattle.std.specs.BTreeSet.{insert_key}
use Rattle.std.specs.List.{list_any}
use Rattle.std.specs.Ordering.{is_eq, match_ordering}
use Rattle.std.specs.Str.{bytes_eq}
use Rattle.mime_base.specs.Database.PlainPairs.{is_same_pair}
use Rattle.mime_text.proofs.Merges.Filters.{list_any-map}
use Rattle.mime_text.proofs.Merges.Sets.{all-tied, inserted-any, key_cmp}
use Rattle.mime_text.specs.Merging.{AreTailed, tail_of}

-- a number and the two texts of a key
abbrev TailedKey : Type 0
TailedKey = ℕ × Bor (List ℕ) × Bor (List ℕ)

-- the two texts of a key
abbrev pub texts_of : TailedKey → List ℕ × List ℕ
texts_of key = (key.1.now, key.2.now)

-- names that are the same have the same number
same-tail : (x y : TailedKey) → x.0 ≡ tail_of x.1.now → y.0 ≡ tail_of y.1.now
    → (x.0 == y.0 && bytes_eq x.1.now y.1.now) ≡ bytes_eq x.1.now y.1.now
same-tail x y own other = ⊎_elim
    (λ yes_is.
    let names : x.1.now ≡ y.1.now = (bytes_eq-Decides x.1.now y.1.now).0 yes_is in
    ap (λ b. b && bytes_eq x.1.now y.1.now) (eq-eqb x.0 y.0 (own ∙ ap tail_of names ∙ sym other)))
    (λ no_is. rw no_is (neither (x.0 == y.0)))
    (cases_Bool (bytes_eq x.1.now y.1.now))
  where
    neither : (b : Bool) → (b && false) ≡ false
    neither true = refl
    neither false = refl

-- a key is found by its texts alone
pub found-tailed : (key : TailedKey) (keys : List TailedKey) → key.0 ≡ tail_of key.1.now → AreTailed keys
    → list_any (λ x. is_eq (key_cmp key x)) keys ≡ list_any (is_same_pair (texts_of key)) (map texts_of keys)
found-tailed key [] own all = refl
found-tailed key (x ∷ keys) own all =
    ap₂ ◌||◌ (all-tied key.0 x.0 key.1.now x.1.now key.2.now x.2.now
    ∙ ap (λ b. b && bytes_eq key.2.now x.2.now) (same-tail key x own all.0)) (found-tailed key keys own all.1)

-- keys that compare as equal have the same texts
same-texts : (sought : List ℕ × List ℕ) (x y : TailedKey) → key_cmp x y ≡ Equal
    → is_same_pair sought (texts_of x) ≡ is_same_pair sought (texts_of y)
same-texts sought x y equal =
    let all = and_parts (x.0 == y.0 && bytes_eq x.1.now y.1.now) (bytes_eq x.2.now y.2.now)
    (sym (all-tied x.0 y.0 x.1.now y.1.now x.2.now y.2.now) ∙ ap is_eq equal) in
    let both = and_parts (x.0 == y.0) (bytes_eq x.1.now y.1.now) all.0 in
    let first : x.1.now ≡ y.1.now = (bytes_eq-Decides x.1.now y.1.now).0 both.1 in
    let second : x.2.now ≡ y.2.now = (bytes_eq-Decides x.2.now y.2.now).0 all.1 in
    rw (first, second) refl

-- a key more is found by its texts
pub added-tailed : (key : TailedKey) (keys : List TailedKey) (sought : List ℕ × List ℕ)
    → list_any (is_same_pair sought) (map texts_of (insert_key key_cmp keys key))
    ≡ list_any (is_same_pair sought) (texts_of key ∷ map texts_of keys)
added-tailed key keys sought =
    list_any-map texts_of (is_same_pair sought) (insert_key key_cmp keys key)
    ∙ inserted-any key_cmp (λ x. is_same_pair sought (texts_of x)) (same-texts sought) key keys
    ∙ ap (λ b. is_same_pair sought (texts_of key) || b) (sym (list_any-map texts_of (is_same_pair sought) keys))

-- a key more with the number of its name
pub more-tailed : (key : TailedKey) (keys : List TailedKey) → key.0 ≡ tail_of key.1.now → AreTailed keys
    → AreTailed (insert_key key_cmp keys key)
more-tailed key [] own all = (own, tt)
more-tailed key (x ∷ keys) own all = by_order (key_cmp key x) (more-tailed key keys own all.1)
  where
    by_order : (o : Ordering) → AreTailed (insert_key key_cmp keys key)
        → AreTailed (match_ordering o (key ∷ x ∷ keys) (x ∷ keys) (x ∷ insert_key key_cmp keys key))
    by_order Less later = (own, all)
    by_order Equal later = all
    by_order Greater later = (all.0, later)
