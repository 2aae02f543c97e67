-- The parents of a type that a cache's own budget and no marks give.
use Rattle.std.proofs.Common.{◌≡◌, ℕ, suc, ◌/◌, ◌<◌, ◌≤◌, Bool, true, false, List, [], ◌∷◌, length, get_or, Option, None, Some, Result, Ok, Err}
use Rattle.std.proofs.Common.{cond, refl, sym, subst, arith}
use Rattle.std.specs.Prelude.{MatchResult, bytes_eq, option_map}
use Rattle.std.proofs.lemmas.Slice.Eq.{bytes_eq-Decides}
use Rattle.mime_base.specs.Cache.Bytes.{Stands, field}
use Rattle.mime_base.specs.Database.Subclass.{parents}
use Rattle.mime_base.specs.Format.Header.{HeaderAt, Offsets}
use Rattle.mime_base.specs.Format.Parents.{ParentsAt}
use Rattle.mime_c.specs.Parents.{IsParents, types_of}
use Rattle.mime_view.specs.Lists.{place_of}
use Rattle.mime_view.specs.Parents.{IsGiven, IsParentsFault, ReadsParents, StopsParents, TakesParents, is_marked, unmarked_parents}
use Rattle.mime_view.specs.Spending.{Gives}
use Rattle.mime_view.specs.declared.fault.CacheFault.{CacheFault}
use Rattle.mime_view.specs.declared.parents.Parents.{Parents}
use Rattle.mime_view.specs.declared.spending.Spending.{Spending}
use Rattle.mime_view.proofs.ParentsLemmas.ParentLists.{parents_named}

-- types, each with one of its parents
abbrev Pairs : Type 0
Pairs = List (List ℕ × List ℕ)

-- without marks nothing is marked
unmarked : (c : List ℕ) (at : ℕ) (kind : List ℕ) → is_marked c at [] kind ≡ false
unfolding is_marked
unmarked c at kind = refl

-- the place of a text has the text
place_has : (kinds : List (List ℕ)) (kind : List ℕ) (i : ℕ) → place_of kinds kind ≡ Some i → (i < length kinds) × (get_or kinds i [] ≡ kind)
place_has [] kind i is = absurd cc
place_has (first ∷ kinds) kind i is = by_first (bytes_eq first kind) refl (place_has kinds kind) is
  where
    Has : List (List ℕ) → ℕ → Type 0
    Has texts n = (n < length texts) × (get_or texts n [] ≡ kind)

    later : (place : Option ℕ) → ((j : ℕ) → place ≡ Some j → Has kinds j) → option_map suc place ≡ Some i → Has (first ∷ kinds) i
    later None rest is = absurd cc
    later (Some j) rest is =
        let next : suc j ≡ i = cc in
        let here = rest j refl in
        subst (Has (first ∷ kinds)) next (omega (arith, here.0), here.1)

    by_first : (same : Bool) → bytes_eq first kind ≡ same → ((j : ℕ) → place_of kinds kind ≡ Some j → Has kinds j) →
        cond same (Some 0) (option_map suc (place_of kinds kind)) ≡ Some i → Has (first ∷ kinds) i
    by_first true same rest is =
        let here : 0 ≡ i = cc in
        subst (Has (first ∷ kinds)) here (omega arith, (bytes_eq-Decides first kind).0 same)
    by_first false other rest is = later (place_of kinds kind) rest is

-- the parents of a type take no more than a record for four bytes of the cache
parents_fit : (c : List ℕ) (at : ℕ) (pairs : Pairs) (kinds : List (List ℕ)) (kind : List ℕ) → ReadsParents c at pairs kinds →
    length (parents pairs kind) ≤ length c / 4
parents_fit c at pairs kinds kind reads = by_place (place_of kinds kind) refl
  where
    by_place : (place : Option ℕ) → place_of kinds kind ≡ place → length (parents pairs kind) ≤ length c / 4
    by_place None none = rw (reads.all kind none) (omega arith)
    by_place (Some i) some =
        let here = place_has kinds kind i some in
        let texts = reads.above i here.0 in
        subst (λ (k : List ℕ). length (parents pairs k) ≤ length c / 4) here.1 (omega (arith, texts.inside))

-- what is given of a type that is not marked
given_types : (pairs : Pairs) (kinds : List (List ℕ)) (kind : List ℕ) (found : Option Parents) → IsGiven pairs kinds false kind found →
    types_of found ≡ parents pairs kind
given_types pairs kinds kind None is = sym is.1
given_types pairs kinds kind (Some found) is = is.2

module _ (c kind : List ℕ) (old new : Spending) (records : old.budget.records ≡ length c / 4) where
  -- where the parent list stands, its parents are given for as many records as they are
  abbrev GivesParents : Result (Option Parents) CacheFault → Type 0
  GivesParents result = (offsets : Offsets) (pairs : Pairs) → HeaderAt (Stands c) offsets →
      (stand : ParentsAt (Stands c) offsets.parents pairs) → let marked = is_marked c (field c 0 2) [] kind in
      Gives (IsGiven pairs stand.kinds marked kind) (length (unmarked_parents pairs marked kind)) old new result

  -- the records of the cache's own budget are enough for them
  enough : (offsets : Offsets) (pairs : Pairs) → HeaderAt (Stands c) offsets → ParentsAt (Stands c) offsets.parents pairs →
      length (unmarked_parents pairs (is_marked c (field c 0 2) [] kind) kind) ≤ old.budget.records
  enough offsets pairs header stand =
      let reads = parents_named c c (field c 0 2) offsets pairs refl refl header stand in
      rw (unmarked c (field c 0 2) kind, records) (parents_fit c (field c 0 2) pairs stand.kinds kind reads)

  -- so they are the type's, or memory was refused
  pub is_parents : (after : List ℕ) (result : Result (Option Parents) CacheFault) → GivesParents result →
      MatchResult result (TakesParents c (field c 0 2) kind old new [] after) (StopsParents c (field c 0 2) kind old new [] after) →
      IsParents c kind result
  is_parents after (Ok found) gives taken = record {
    answer = λ offsets pairs header stand. given_types pairs stand.kinds kind found
        (rw (unmarked c (field c 0 2) kind) at ((gives offsets pairs header stand).answer));
    need = λ offsets pairs header stand. tt;
    read = taken.read;
    fault = tt;
  }
  is_parents after (Err e) gives taken = record {
    answer = λ offsets pairs header stand. tt;
    need = λ offsets pairs header stand. (gives offsets pairs header stand).need (enough offsets pairs header stand);
    read = tt;
    fault = (
      new.budget.records,
      subst (λ (n : ℕ). IsParentsFault c (field c 0 2) [] kind n new.budget.records e) records taken.fault,
    );
  }
