-- The choice among kept types, in the steps of the code.
use Rattle.std.specs.Prelude.{Contains}
use Rattle.std.proofs.Common.{◌≡◌, ℕ, zero, suc, ◌<◌, Bool, true, false, inl, inr, List, [], ◌∷◌, length, get_or, map}
use Rattle.std.proofs.Common.{refl, sym, ◌∙◌, arith, MatchBool, bytes_eq}
use Rattle.std.specs.List.{list_all}
use Rattle.std.proofs.lemmas.Bool.{and_from, and_parts}
use Rattle.std.proofs.lemmas.Slice.Eq.{bytes_eq-Decides}
use denote.Bor.{Bor}
use Rattle.mime_lookup.specs.Ancestry.{kinds_of}
use Rattle.mime_lookup.specs.Choice.{ChoosesAmong, IsFirst}
use Rattle.mime_base.specs.Database.Subclass.{Pairs}

-- of types that are one type the first that is the base, or the first, is that type
one_type : (pairs : Pairs) (base first : List ℕ) (kinds : List (List ℕ)) (answer : List ℕ) → list_all (bytes_eq first) kinds ≡ true →
    IsFirst pairs base first kinds answer → answer ≡ first
one_type pairs base first [] answer all is = is
one_type pairs base first (kind ∷ kinds) answer all (inl found) =
    found.1 ∙ sym ((bytes_eq-Decides first kind).0 (and_parts (bytes_eq first kind) (list_all (bytes_eq first) kinds) all).0)
one_type pairs base first (kind ∷ kinds) answer all (inr later) =
    one_type pairs base first kinds answer (and_parts (bytes_eq first kind) (list_all (bytes_eq first) kinds) all).1 later.1

-- whether the types are one type need not be asked
pub chooses-from_first : {X : Type 0} (pairs : Pairs) (kind_of : X → List ℕ) (base : List ℕ) (xs : List X) (answer : List ℕ) (d : X) →
    0 < length xs → IsFirst pairs base (kind_of (get_or xs 0 d)) (map kind_of xs) answer → ChoosesAmong pairs (map kind_of xs) base answer
chooses-from_first pairs kind_of base [] answer d some is = absurd (omega arith)
chooses-from_first pairs kind_of base (x ∷ xs) answer d some is = by_cases (list_all (bytes_eq (kind_of x)) (map kind_of xs)) refl
  where
    by_cases : (one : Bool) → list_all (bytes_eq (kind_of x)) (map kind_of xs) ≡ one →
        MatchBool one (answer ≡ kind_of x) (IsFirst pairs base (kind_of x) (kind_of x ∷ map kind_of xs) answer)
    by_cases true all =
        let same : bytes_eq (kind_of x) (kind_of x) ≡ true = (bytes_eq-Decides (kind_of x) (kind_of x)).1 refl in
        one_type pairs base (kind_of x) (kind_of x ∷ map kind_of xs) answer
        (and_from (bytes_eq (kind_of x) (kind_of x)) (list_all (bytes_eq (kind_of x)) (map kind_of xs)) same all) is
    by_cases false all = is

-- the same over references, where the base is what was found
pub chooses-from_found : (pairs : Pairs) (base found : List ℕ) (kept : List (Bor (List ℕ))) (d : Bor (List ℕ)) (answer : List ℕ) →
    base ≡ found → 0 < length kept → IsFirst pairs base (get_or kept 0 d).now (kinds_of kept) answer →
    ChoosesAmong pairs (kinds_of kept) found answer
chooses-from_found pairs base found kept d answer same some is =
    rw (← same) (chooses-from_first pairs (λ text. text.now) base kept answer d some is)

-- no type is kept
pub chooses-found : (pairs : Pairs) (base found : List ℕ) (kept : List (Bor (List ℕ))) → base ≡ found → length kept ≡ 0 →
    ChoosesAmong pairs (kinds_of kept) found base
chooses-found pairs base found [] same none = same
chooses-found pairs base found (kind ∷ kept) same none = absurd (omega arith)

-- one type is kept
pub chooses-one : (pairs : Pairs) (found : List ℕ) (kept : List (Bor (List ℕ))) (d : Bor (List ℕ)) → length kept ≡ 1 →
    ChoosesAmong pairs (kinds_of kept) found (get_or kept 0 d).now
chooses-one pairs found [] d one = absurd (omega arith)
chooses-one pairs found (kind ∷ []) d one = refl
chooses-one pairs found (kind ∷ next ∷ more) d one = absurd (omega arith)

-- the first of some types is one of them
pub one_of : (kept : List (Bor (List ℕ))) (d : Bor (List ℕ)) (kind : List ℕ) → 0 < length kept →
    Contains ((get_or kept 0 d).now ∷ kinds_of kept) kind → Contains (kinds_of kept) kind
one_of [] d kind some is = absurd (omega arith)
one_of (first ∷ more) d kind some (zero, within, same) = (0, omega arith, same)
one_of (first ∷ more) d kind some (suc k, within, same) = (k, omega (arith, within), same)
