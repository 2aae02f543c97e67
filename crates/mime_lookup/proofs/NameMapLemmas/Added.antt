-- The first name of a mark is added.
use Rattle.std.proofs.Common.{◌≡◌, ℕ, ◌+◌, ◌<◌, ◌≤◌, false, List, [], ◌∷◌, ◌++◌, length, get_or, set, Option, None, Some}
use Rattle.std.proofs.Common.{sym, ap, ◌∙◌, ⊎_elim, arith, bytes_eq, slice_get}
use Rattle.std.specs.Map.{update}
use Rattle.std.proofs.lemmas.Bool.{cases_Bool, cases_eq, cond-false, cond-true}
use Rattle.std.proofs.lemmas.List.{get_or-set_other, get_or-set_same}
use Rattle.std.proofs.lemmas.Slice.Eq.{bytes_eq-Decides}
use Rattle.mime_lookup.specs.Marks.{mark}
use Rattle.mime_lookup.specs.NameMap.{is_shared, number_of, value_at}
use Rattle.mime_lookup.specs.declared.name_map.NameEntry.{NameEntry}
use Rattle.mime_lookup.proofs.NameMapLemmas.Items.{get-append_other, get-append_same, value_at-other, value_at-own}

module _ {V : Type 0} (numbers : List ℕ) (entries : List (NameEntry V)) (entry : NameEntry V) (m : ℕ) (within : m < length numbers)
    (small : length entries < 65535)
    (empty : (k : ℕ) → length entries ≤ get_or numbers k 65535 → get_or numbers k 65535 ≡ 65535) where
  -- a name of the mark comes to the entry
  here : (name : List ℕ) → mark name ≡ m →
      slice_get (entries ++ entry ∷ []) (number_of (set numbers m (length entries)) name) ≡ Some entry
  here name is =
      ap (λ (k : ℕ). slice_get (entries ++ entry ∷ []) (get_or (set numbers m (length entries)) k 65535)) is
      ∙ ap (slice_get (entries ++ entry ∷ [])) (get_or-set_same numbers m (length entries) 65535 within) ∙ get-append_same entries entry

  -- any other to what it came to
  elsewhere : (name : List ℕ) → (mark name ≡ m → ⊥) →
      slice_get (entries ++ entry ∷ []) (number_of (set numbers m (length entries)) name) ≡ slice_get entries (number_of numbers name)
  elsewhere name other =
      ap (slice_get (entries ++ entry ∷ [])) (get_or-set_other numbers m (mark name) (length entries) 65535 other)
      ∙ get-append_other entries entry (number_of numbers name) (λ at. omega (arith, at, small, empty (mark name) (omega (arith, at))))

  -- a number of no entry stays one
  pub empty-added : (k : ℕ) → length entries + 1 ≤ get_or (set numbers m (length entries)) k 65535 →
      get_or (set numbers m (length entries)) k 65535 ≡ 65535
  empty-added k above =
      ⊎_elim
      (λ same. let is = ap (λ (j : ℕ). get_or (set numbers m (length entries)) j 65535) same
      ∙ get_or-set_same numbers m (length entries) 65535 within in absurd (omega (arith, is, above)))
      (λ other. let is = get_or-set_other numbers m k (length entries) 65535 other in is ∙ empty k (omega (arith, is, above)))
      (cases_eq k m)

  module _ (others : List ℕ → Option V) (name : List ℕ) (is : m ≡ mark name) (first : slice_get entries (number_of numbers name) ≡ None) where
    -- a name of the mark had no entry
    none : (other : List ℕ) → mark other ≡ m → slice_get entries (number_of numbers other) ≡ None
    none other same = ap (λ (k : ℕ). slice_get entries (get_or numbers k 65535)) (same ∙ is) ∙ first

    -- the name has its value, and each other what it had
    pub updates-added : entry.name.now ≡ name → (other : List ℕ) →
        value_at (slice_get (entries ++ entry ∷ []) (number_of (set numbers m (length entries)) other)) (others other) other
        ≡ update bytes_eq (λ n. value_at (slice_get entries (number_of numbers n)) (others n) n) name (Some entry.value) other
    updates-added named other =
        let before = value_at (slice_get entries (number_of numbers other)) (others other) other in
        ⊎_elim
        (λ hit. ap (λ found. value_at found (others other) other)
        (here other (ap mark (sym ((bytes_eq-Decides name other).0 hit)) ∙ sym is))
        ∙ value_at-own entry (others other) other (ap (λ n. bytes_eq n other) named ∙ hit)
        ∙ sym (cond-true (bytes_eq name other) (Some entry.value) before hit))
        (λ miss. ⊎_elim
        (λ same. ap (λ found. value_at found (others other) other) (here other same)
        ∙ value_at-other entry (others other) other (ap (λ n. bytes_eq n other) named ∙ miss)
        ∙ sym (ap (λ found. value_at found (others other) other) (none other same)))
        (λ apart. ap (λ found. value_at found (others other) other) (elsewhere other apart))
        (cases_eq (mark other) m)
        ∙ sym (cond-false (bytes_eq name other) (Some entry.value) before miss))
        (cases_Bool (bytes_eq name other))

    -- no other name has the mark
    pub alone-added : ((n : List ℕ) → is_shared (slice_get entries (number_of numbers n)) ≡ false → others n ≡ None) →
        (n : List ℕ) → is_shared (slice_get (entries ++ entry ∷ []) (number_of (set numbers m (length entries)) n)) ≡ false → others n ≡ None
    alone-added alone n unshared =
        ⊎_elim
        (λ same. alone n (ap is_shared (none n same)))
        (λ apart. alone n (ap is_shared (sym (elsewhere n apart)) ∙ unshared))
        (cases_eq (mark n) m)
