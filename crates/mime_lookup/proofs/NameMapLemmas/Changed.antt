-- The entry to which a name's mark leads is changed.
use Rattle.std.proofs.Common.{◌≡◌, ℕ, true, false, List, set, Option, None, Some}
use Rattle.std.proofs.Common.{refl, sym, ap, ◌∙◌, ⊎_elim, true≢false, bytes_eq, slice_get}
use Rattle.std.specs.Map.{update}
use Rattle.std.proofs.lemmas.Bool.{cases_Bool, cases_eq, cond-false, cond-true}
use Rattle.std.proofs.lemmas.Option.{slice_get_within}
use Rattle.std.proofs.lemmas.Slice.Eq.{bytes_eq-Decides}
use Rattle.mime_lookup.specs.NameMap.{is_shared, number_of, value_at}
use Rattle.mime_lookup.specs.declared.name_map.NameEntry.{NameEntry}
use Rattle.mime_lookup.proofs.NameMapLemmas.Items.{get-set_other, get-set_same, value_at-other, value_at-own}

module _ {V : Type 0} (numbers : List ℕ) (entries : List (NameEntry V)) (entry changed : NameEntry V) (name : List ℕ) (at : ℕ)
    (leads : number_of numbers name ≡ at) (was : slice_get entries at ≡ Some entry) (same : changed.name.now ≡ entry.name.now) where
  -- a name whose mark leads there comes to the changed entry
  here : (other : List ℕ) → number_of numbers other ≡ at → slice_get (set entries at changed) (number_of numbers other) ≡ Some changed
  here other is = ap (slice_get (set entries at changed)) is ∙ get-set_same entries at changed (slice_get_within entries at entry was)

  -- any other to what it came to
  elsewhere : (other : List ℕ) → (number_of numbers other ≡ at → ⊥) →
      slice_get (set entries at changed) (number_of numbers other) ≡ slice_get entries (number_of numbers other)
  elsewhere other apart = get-set_other entries at (number_of numbers other) changed apart

  -- the name itself comes there
  leads-own : (other : List ℕ) → bytes_eq name other ≡ true → number_of numbers other ≡ at
  leads-own other hit = ap (number_of numbers) (sym ((bytes_eq-Decides name other).0 hit)) ∙ leads

  -- the entry is the name's own: the name has its new value, and each other what it had
  pub updates-own : (others : List ℕ → Option V) → bytes_eq entry.name.now name ≡ true → (other : List ℕ) →
      value_at (slice_get (set entries at changed) (number_of numbers other)) (others other) other
      ≡ update bytes_eq (λ n. value_at (slice_get entries (number_of numbers n)) (others n) n) name (Some changed.value) other
  updates-own others own other =
      let before = value_at (slice_get entries (number_of numbers other)) (others other) other in
      let named : entry.name.now ≡ name = (bytes_eq-Decides entry.name.now name).0 own in
      let found = λ (e : Option (NameEntry V)). value_at e (others other) other in
      ⊎_elim
      (λ hit. ap found (here other (leads-own other hit))
      ∙ value_at-own changed (others other) other (ap (λ n. bytes_eq n other) (same ∙ named) ∙ hit)
      ∙ sym (cond-true (bytes_eq name other) (Some changed.value) before hit))
      (λ miss. ⊎_elim
      (λ is. ap found (here other is)
      ∙ value_at-other changed (others other) other (ap (λ n. bytes_eq n other) (same ∙ named) ∙ miss)
      ∙ sym (value_at-other entry (others other) other (ap (λ n. bytes_eq n other) named ∙ miss))
      ∙ sym (ap found (ap (slice_get entries) is ∙ was)))
      (λ apart. ap found (elsewhere other apart))
      (cases_eq (number_of numbers other) at)
      ∙ sym (cond-false (bytes_eq name other) (Some changed.value) before miss))
      (cases_Bool (bytes_eq name other))

  module _ (others after : List ℕ → Option V) (value : V)
      (updates : (other : List ℕ) → after other ≡ update bytes_eq others name (Some value) other) where
    -- the entry is another name's: the name has the value that was put among the others, and each other name what it had
    pub updates-shared : changed.value ≡ entry.value → bytes_eq entry.name.now name ≡ false → (other : List ℕ) →
        value_at (slice_get (set entries at changed) (number_of numbers other)) (after other) other
        ≡ update bytes_eq (λ n. value_at (slice_get entries (number_of numbers n)) (others n) n) name (Some value) other
    updates-shared kept foreign other =
        let before = value_at (slice_get entries (number_of numbers other)) (others other) other in
        let found = λ (e : Option (NameEntry V)). value_at e (after other) other in
        ⊎_elim
        (λ hit. ap found (here other (leads-own other hit))
        ∙ value_at-other changed (after other) other
        (ap (λ n. bytes_eq n other) same ∙ ap (bytes_eq entry.name.now) (sym ((bytes_eq-Decides name other).0 hit)) ∙ foreign)
        ∙ updates other ∙ cond-true (bytes_eq name other) (Some value) (others other) hit
        ∙ sym (cond-true (bytes_eq name other) (Some value) before hit))
        (λ miss. ⊎_elim
        (λ is. ap found (here other is) ∙ rw (same, kept) refl ∙ sym (ap found (ap (slice_get entries) is ∙ was)))
        (λ apart. ap found (elsewhere other apart))
        (cases_eq (number_of numbers other) at)
        ∙ ap (λ o. value_at (slice_get entries (number_of numbers other)) o other)
        (updates other ∙ cond-false (bytes_eq name other) (Some value) (others other) miss)
        ∙ sym (cond-false (bytes_eq name other) (Some value) before miss))
        (cases_Bool (bytes_eq name other))

    -- no other name has a mark that isn't shared
    pub alone-shared : changed.shared ≡ true →
        ((n : List ℕ) → is_shared (slice_get entries (number_of numbers n)) ≡ false → others n ≡ None) →
        (n : List ℕ) → is_shared (slice_get (set entries at changed) (number_of numbers n)) ≡ false → after n ≡ None
    alone-shared shared alone n unshared =
        ⊎_elim
        (λ is. absurd (true≢false (sym shared ∙ sym (ap is_shared (here n is)) ∙ unshared)))
        (λ apart. ⊎_elim
        (λ hit. absurd (apart (leads-own n hit)))
        (λ miss. updates n ∙ cond-false (bytes_eq name n) (Some value) (others n) miss
        ∙ alone n (ap is_shared (sym (elsewhere n apart)) ∙ unshared))
        (cases_Bool (bytes_eq name n)))
        (cases_eq (number_of numbers n) at)
