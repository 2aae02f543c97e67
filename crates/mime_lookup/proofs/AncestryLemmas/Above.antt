-- What is one step above a type: nothing, or one type.
use Rattle.std.proofs.Common.{◌≡◌, ◌↔◌, ℕ, ◌+◌, Bool, false, List, [], ◌∷◌, length, get_or, drop, Option, None, Some}
use Rattle.std.proofs.Common.{refl, sym, ap, subst, ◌∙◌, arith, true≢false}
use Rattle.std.specs.Option.{is_some}
use Rattle.std.specs.Prelude.{IfOk, IsTrue, Result}
use Rattle.std.proofs.lemmas.Result.{IfOk-weaker}
use Rattle.std.proofs.lemmas.Slice.Eq.{bytes_eq-Decides}
use Rattle.mime_base.specs.Database.PlainPairs.{plain_pairs}
use Rattle.mime_base.specs.Database.Subclass.{IsA, IsPath, Pairs, above, is_by_itself, parents}
use Rattle.mime_base.specs.declared.database.pair.Pair.{Pair}
use Rattle.mime_lookup.specs.Places.{IsIndexed, IsNextPlace}
use Rattle.mime_lookup.proofs.AncestryLemmas.PairSteps.{parents-here}
use Rattle.mime_lookup.proofs.AncestryLemmas.Places.{parents-low}
use Rattle.mime_lookup.proofs.AncestryLemmas.Searches.{Contains-head, Contains-nil, Contains-only}

-- what is not some is none
pub none_of : (place : Option ℕ) → is_some place ≡ false → place ≡ None
none_of None is = refl
none_of (Some at) is = absurd (true≢false is)

-- where no place comes after a type's first one, what stands there is its one parent
pub parents-only : (pairs : List Pair) (kind : List ℕ) (place k : ℕ) (pair : Pair) (first : List ℕ → Option ℕ) (next : List (Option ℕ)) →
    IsIndexed pairs 0 first next → IsNextPlace pairs kind 0 (Some place) → k + (place + 1) ≡ length pairs → get_or next k None ≡ None →
    pair ≡ get_or pairs place pair → parents (plain_pairs pairs) kind ≡ pair.target ∷ []
parents-only pairs kind place k pair first next indexed here size last is =
    let name : pair.name ≡ kind = here.3 pair is in
    let none = subst (IsNextPlace pairs pair.name (place + 1)) last (indexed.nexts place k pair (omega arith) size is) in
    here.2 ∙ parents-low pairs place pair here.1 is kind
    ∙ parents-here pair.name pair.target kind _ ((bytes_eq-Decides pair.name kind).1 name)
    ∙ ap (λ ps. pair.target ∷ ps) (ap (λ n. parents (plain_pairs (drop (place + 1) pairs)) n) (sym name) ∙ none)

-- what a search says of where a climb ended, it says of where that began
pub goes_on : {E : Type 0} (result : Result Bool E) (pairs : Pairs) (kind here base : List ℕ) →
    IsA pairs kind base ↔ IsA pairs here base → IfOk result (λ is. IsTrue is ↔ IsA pairs here base) →
    IfOk result (λ is. IsTrue is ↔ IsA pairs kind base)
goes_on result pairs kind here base climbed =
    IfOk-weaker result (λ is. IsTrue is ↔ IsA pairs here base) (λ is. IsTrue is ↔ IsA pairs kind base)
    (λ is says. ((λ found. climbed.1 (says.0 found)), (λ is_a. says.1 (climbed.0 is_a))))

module _ (pairs : Pairs) (kind base : List ℕ) (other : is_by_itself kind base ≡ false) where
  -- a type with nothing above it is another only by itself
  pub never : above pairs kind ≡ [] → IsA pairs kind base → ⊥
  never none is_a = by_path is_a.0 is_a.1
    where
      by_path : (path : List (List ℕ)) → IsPath pairs kind base path → ⊥
      by_path [] is = cc (other, is)
      by_path (next ∷ path) is = Contains-nil next (rw none at is.0)

  -- a type with one type above it is another only if that one is
  pub as_parent : (parent : List ℕ) → above pairs kind ≡ parent ∷ [] → IsA pairs kind base ↔ IsA pairs parent base
  as_parent parent one = ((λ is_a. by_path is_a.0 is_a.1), (λ is_a. (parent ∷ is_a.0, (rw one (Contains-head parent []), is_a.1))))
    where
      by_path : (path : List (List ℕ)) → IsPath pairs kind base path → IsA pairs parent base
      by_path [] is = absurd (cc (other, is))
      by_path (next ∷ path) is =
          (path, subst (λ (k : List ℕ). IsPath pairs k base path) (sym (Contains-only parent next (rw one at is.0))) is.1)
