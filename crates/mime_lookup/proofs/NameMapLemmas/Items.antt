-- What is at the places of a list after one is changed or added, and what an entry has for a name.
use Rattle.std.proofs.Common.{◌≡◌, ℕ, ◌<◌, true, false, List, [], ◌∷◌, ◌++◌, length, get_or, replicate, set, Option, Some}
use Rattle.std.proofs.Common.{sym, ap, ◌∙◌, ⊎_elim, arith, bytes_eq, slice_get}
use Rattle.std.proofs.lemmas.Bool.{cases_eq, cases_lt, cond-false, cond-true}
use Rattle.std.proofs.lemmas.List.{get_or_append_left, get_or_past, get_or-replicate, get_or-set_other, get_or-set_same, length-append, length-replicate, length-set}
use Rattle.std.proofs.lemmas.Option.{slice_get_past, slice_get-get_or}
use Rattle.std.proofs.Math.Seq.{get_or-append_seam}
use Rattle.mime_lookup.specs.NameMap.{value_at}
use Rattle.mime_lookup.specs.declared.name_map.NameEntry.{NameEntry}

module _ {X : Type 0} where
  -- the item that was put at a place
  pub get-set_same : (xs : List X) (i : ℕ) (x : X) → i < length xs → slice_get (set xs i x) i ≡ Some x
  get-set_same xs i x within =
      slice_get-get_or (set xs i x) i x (omega (arith, within, length-set xs i x)) ∙ ap Some (get_or-set_same xs i x x within)

  -- and any other
  pub get-set_other : (xs : List X) (i j : ℕ) (x : X) → (j ≡ i → ⊥) → slice_get (set xs i x) j ≡ slice_get xs j
  get-set_other xs i j x other =
      ⊎_elim
      (λ within. slice_get-get_or (set xs i x) j x (omega (arith, within, length-set xs i x)) ∙ ap Some (get_or-set_other xs i j x x other)
      ∙ sym (slice_get-get_or xs j x within))
      (λ past. slice_get_past (set xs i x) j (omega (arith, past, length-set xs i x)) ∙ sym (slice_get_past xs j past))
      (cases_lt j (length xs))

  -- the item that was put at the end
  pub get-append_same : (xs : List X) (x : X) → slice_get (xs ++ x ∷ []) (length xs) ≡ Some x
  get-append_same xs x =
      slice_get-get_or (xs ++ x ∷ []) (length xs) x (omega (arith, length-append xs (x ∷ []))) ∙ ap Some (get_or-append_seam xs x [] x)

  -- and any other
  pub get-append_other : (xs : List X) (x : X) (j : ℕ) → (j ≡ length xs → ⊥) → slice_get (xs ++ x ∷ []) j ≡ slice_get xs j
  get-append_other xs x j other =
      ⊎_elim
      (λ within. slice_get-get_or (xs ++ x ∷ []) j x (omega (arith, within, length-append xs (x ∷ [])))
      ∙ ap Some (get_or_append_left xs (x ∷ []) x j within) ∙ sym (slice_get-get_or xs j x within))
      (λ past. ⊎_elim
      (λ at. absurd (other (sym at)))
      (λ after. slice_get_past (xs ++ x ∷ []) j (omega (arith, past, after, length-append xs (x ∷ []))) ∙ sym (slice_get_past xs j past))
      (cases_eq (length xs) j))
      (cases_lt j (length xs))

module _ {V : Type 0} (entry : NameEntry V) (other : Option V) (name : List ℕ) where
  -- an entry of the name
  pub value_at-own : bytes_eq entry.name.now name ≡ true → value_at (Some entry) other name ≡ Some entry.value
  value_at-own hit = cond-true (bytes_eq entry.name.now name) (Some entry.value) other hit

  -- an entry of another name
  pub value_at-other : bytes_eq entry.name.now name ≡ false → value_at (Some entry) other name ≡ other
  value_at-other miss = cond-false (bytes_eq entry.name.now name) (Some entry.value) other miss

-- a list of one item, and that item past its end
pub get-replicate : {X : Type 0} (n i : ℕ) (x : X) → get_or (replicate n x) i x ≡ x
get-replicate n i x =
    ⊎_elim (λ within. get_or-replicate n i x x within)
    (λ past. get_or_past (replicate n x) i x (omega (arith, past, length-replicate n x))) (cases_lt i n)
