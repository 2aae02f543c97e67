-- Keys that are alone at their place are the first, and no other key is the same.
use Rattle.std.proofs.Common.{◌≡◌, ℕ, ◌+◌, ◌<◌, ◌≤◌, ◌==◌, min, Bool, true, false, not, ◌||◌, cond, List, [], ◌∷◌, ◌++◌, length, ap}
use Rattle.std.proofs.Common.{◌∙◌, refl, sym, arith, ⊎_elim, get_or, take, drop}
use Rattle.std.proofs.lemmas.Bool.{and_parts, cases_Bool, cases_lt, eq-eqb}
use Rattle.std.proofs.lemmas.Bool.Decides.{eqb_tells}
use Rattle.std.proofs.lemmas.List.{append-nil, drop_all, get_or_past, take_all}
use Rattle.std.proofs.lemmas.Slice.Eq.{bytes_eq-Decides}
use Rattle.std.specs.List.{list_any}
use Rattle.mime_base.specs.Database.PlainPairs.{is_same_pair}
use Rattle.mime_text.specs.Merging.Buckets.{AreCounts, bucket, is_alone, times}

-- the keys that are the same have one place
same_place : (size : ℕ) (key other : List ℕ × List ℕ) → is_same_pair key other ≡ true → bucket size key.0 ≡ bucket size other.0
same_place size key other same =
    ap (bucket size) ((bytes_eq-Decides key.0 other.0).0 (and_parts _ _ same).0)

-- one that is among some keys has its place among theirs
times-any : (size : ℕ) (key : List ℕ × List ℕ) (keys : List (List ℕ × List ℕ)) → list_any (is_same_pair key) keys ≡ true
    → 1 ≤ times size (bucket size key.0) keys
times-any size key [] any = absurd (let bad : false ≡ true = any in cc)
times-any size key (other ∷ keys) any = ⊎_elim
    (λ yes_is. let here : (bucket size other.0 == bucket size key.0) ≡ true =
    eq-eqb (bucket size other.0) (bucket size key.0) (sym (same_place size key other yes_is)) in rw here (omega arith))
    (λ no_is. let later : list_any (is_same_pair key) keys ≡ true = rw no_is at any in
    omega (arith, times-any size key keys later))
    (cases_Bool (is_same_pair key other))

-- how many of two lists have a place
times-append : (size place : ℕ) (xs ys : List (List ℕ × List ℕ)) → times size place (xs ++ ys) ≡ times size place xs + times size place ys
times-append size place [] ys = omega arith
times-append size place (x ∷ xs) ys = omega (arith, times-append size place xs ys)

-- a key that is alone has a place that no other has
alone_once : (counts : List ℕ) (keys : List (List ℕ × List ℕ)) (name : List ℕ) → AreCounts counts keys → is_alone counts name ≡ true
    → times (length counts) (bucket (length counts) name) keys ≡ 1
alone_once counts keys name are alone =
    let place = bucket (length counts) name in
    let one : get_or counts place 0 ≡ 1 =
    ⊎_elim (λ is. is.1) (λ is. absurd (let bad : false ≡ true = sym is.0 ∙ alone in cc)) (eqb_tells (get_or counts place 0) 1) in
    ⊎_elim (λ (lt : place < length counts). omega (arith, one, are place lt))
    (λ (le : length counts ≤ place). absurd (omega (arith, one, get_or_past counts place 0 le))) (cases_lt place (length counts))

-- no key before one that is alone is the same
pub none_before : (counts : List ℕ) (keys before after : List (List ℕ × List ℕ)) (key : List ℕ × List ℕ) → AreCounts counts keys
    → keys ≡ before ++ key ∷ after → is_alone counts key.0 ≡ true → list_any (is_same_pair key) before ≡ false
none_before counts keys before after key are split alone = ⊎_elim
    (λ yes_is.
    let size = length counts in
    let place = bucket size key.0 in
    let here : (place == place) ≡ true = eq-eqb place place refl in
    let one : times size place (key ∷ after) ≡ 1 + times size place after = rw here refl in
    absurd (omega (
      arith,
      alone_once counts keys key.0 are alone,
      ap (times size place) split,
      times-append size place before (key ∷ after),
      one,
      times-any size key before yes_is,
    )))
    (λ no_is. no_is)
    (cases_Bool (list_any (is_same_pair key) before))

-- one that is not alone is not the same as one that is
pub other_place : (counts : List ℕ) (other key : List ℕ × List ℕ) → is_alone counts other.0 ≡ false → is_alone counts key.0 ≡ true
    → is_same_pair other key ≡ false
other_place counts other key not_alone alone = ⊎_elim
    (λ yes_is.
    let same : is_alone counts other.0 ≡ is_alone counts key.0 =
    ap (λ (place : ℕ). get_or counts place 0 == 1) (same_place (length counts) other key yes_is) in
    absurd (let bad : false ≡ true = sym not_alone ∙ same ∙ alone in cc))
    (λ no_is. no_is)
    (cases_Bool (is_same_pair other key))

-- whether one of some keys and one more passes a test
pub any-push : {X : Type 0} (p : X → Bool) (xs : List X) (x : X) → list_any p (xs ++ x ∷ []) ≡ (p x || list_any p xs)
any-push p [] x = refl
any-push p (y ∷ ys) x = ap (λ b. p y || b) (any-push p ys x) ∙ turn (p y) (p x) (list_any p ys)
  where
    turn : (a b c : Bool) → (a || (b || c)) ≡ (b || (a || c))
    turn true true c = refl
    turn true false c = refl
    turn false b c = refl

-- what the tree finds of the keys that are not alone is what is among all so far
abbrev pub Finds : List ℕ → List (List ℕ × List ℕ) → List (List ℕ × List ℕ) → Type 0
Finds counts tree seen =
    (key : List ℕ × List ℕ) → is_alone counts key.0 ≡ false → list_any (is_same_pair key) tree ≡ list_any (is_same_pair key) seen

-- whether a key is new, by the tree
pub new_by_tree : (counts : List ℕ) (keys tree before after : List (List ℕ × List ℕ)) (key : List ℕ × List ℕ) → AreCounts counts keys
    → keys ≡ before ++ key ∷ after → Finds counts tree before
    → (is_alone counts key.0 || not (list_any (is_same_pair key) tree)) ≡ not (list_any (is_same_pair key) before)
new_by_tree counts keys tree before after key are split finds = ⊎_elim
    (λ alone.
    ap (λ b. b || not (list_any (is_same_pair key) tree)) alone ∙ ap not (sym (none_before counts keys before after key are split alone)))
    (λ others. ap (λ b. b || not (list_any (is_same_pair key) tree)) others ∙ ap not (finds key others))
    (cases_Bool (is_alone counts key.0))

-- the tree with one key more
pub finds_more : (counts : List ℕ) (tree new before : List (List ℕ × List ℕ)) (key : List ℕ × List ℕ) → Finds counts tree before
    → ((other : List ℕ × List ℕ) → list_any (is_same_pair other) new
    ≡ list_any (is_same_pair other) (cond (is_alone counts key.0) tree (key ∷ tree)))
    → Finds counts new (before ++ key ∷ [])
finds_more counts tree new before key finds more other not_alone =
    more other ∙ ⊎_elim
    (λ alone.
    ap (λ b. list_any (is_same_pair other) (cond b tree (key ∷ tree))) alone ∙ finds other not_alone
    ∙ ap (λ b. b || list_any (is_same_pair other) before) (sym (other_place counts other key not_alone alone))
    ∙ sym (any-push (is_same_pair other) before key))
    (λ others.
    ap (λ b. list_any (is_same_pair other) (cond b tree (key ∷ tree))) others
    ∙ ap (λ b. is_same_pair other key || b) (finds other not_alone)
    ∙ sym (any-push (is_same_pair other) before key))
    (cases_Bool (is_alone counts key.0))

-- a slice of all of a list of counts, written back
pub written_back : (n : ℕ) (old new : List ℕ) → n ≡ length old → length new ≡ length old → take n (new ++ drop (length new) old) ≡ new
written_back n old new e l = rw (drop_all (length new) old (omega arith), append-nil new, take_all n new (omega arith)) refl

-- one key more is counted at its place
pub counted_more : (counts new : List ℕ) (keys : List (List ℕ × List ℕ)) (key : List ℕ × List ℕ) → AreCounts counts keys
    → length new ≡ length counts
    → ((other : ℕ) → other < length counts → get_or new other 0
    ≡ cond (bucket (length counts) key.0 == other) (min 2 (get_or counts other 0 + 1)) (get_or counts other 0))
    → AreCounts new (keys ++ key ∷ [])
counted_more counts new keys key are long each place lt =
    let inside : place < length counts = omega (arith, lt, long) in
    let size = length counts in
    each place inside
    ∙ step (bucket size key.0 == place) (get_or counts place 0) (times size place keys) (are place inside)
    ∙ ap (λ (k : ℕ). min 2 k) (sym (times-append size place keys (key ∷ [])))
    ∙ ap (λ (n : ℕ). min 2 (times n place (keys ++ key ∷ []))) (sym long)
  where
    step : (here : Bool) (old count : ℕ) → old ≡ min 2 count
        → cond here (min 2 (old + 1)) old ≡ min 2 (count + (cond here 1 0 + 0))
    step true old count is = omega (arith, is)
    step false old count is = omega (arith, is)
