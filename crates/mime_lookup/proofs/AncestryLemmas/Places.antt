-- The index of pairs by their names: one pair more.
use Rattle.std.proofs.Common.{◌≡◌, ℕ, ◌+◌, ◌<◌, ◌≤◌, true, false, List, [], ◌∷◌, ◌++◌, length, get_or, drop, Option, None, Some}
use Rattle.std.proofs.Common.{refl, sym, ap, subst, ◌∙◌, ⊎_elim, arith, bytes_eq}
use Rattle.std.specs.Map.{update}
use Rattle.std.proofs.lemmas.Bool.{cases_Bool, cases_lt, cond-false, cond-true}
use Rattle.std.proofs.lemmas.List.{drop_all, get_or_append_left, get_or_default, length-append}
use Rattle.std.proofs.lemmas.Slice.Eq.{bytes_eq-Decides}
use Rattle.std.proofs.Math.Seq.{get_or-append_seam}
use Rattle.mime_base.specs.Database.PlainPairs.{plain_pairs}
use Rattle.mime_base.specs.Database.Subclass.{parents}
use Rattle.mime_base.specs.declared.database.pair.Pair.{Pair}
use Rattle.mime_lookup.specs.Places.{IsIndexed, IsNextPlace}
use Rattle.mime_lookup.proofs.AncestryLemmas.PairSteps.{items_from, parents-nil, parents-past}

-- the same item, whatever the default
same_item : (pairs : List Pair) (i : ℕ) (left right : Pair) → i < length pairs → left ≡ get_or pairs i left → right ≡ get_or pairs i right →
    left ≡ right
same_item pairs i left right within is also = is ∙ get_or_default pairs i left right within ∙ sym also

module _ (pairs : List Pair) where
  -- no pair is past
  pub indexed-none : (low : ℕ) (first : List ℕ → Option ℕ) → low ≡ length pairs → ((name : List ℕ) → first name ≡ None) →
      IsIndexed pairs low first []
  indexed-none low first all none = record {
    size = omega (arith, all);
    firsts = λ name.
        subst (IsNextPlace pairs name low) (sym (none name))
        (ap (λ ps. parents (plain_pairs ps) name) (drop_all low pairs (omega (arith, all))) ∙ parents-nil name);
    nexts = λ place k pair above size is. absurd (omega (arith, all, above, size));
  }

  module _ (low : ℕ) (pair : Pair) (within : low < length pairs) (is : pair ≡ get_or pairs low pair) where
    -- what stands from `low` on, by the pair there
    pub parents-low : (name : List ℕ) → parents (plain_pairs (drop low pairs)) name
        ≡ parents ((pair.name, pair.target) ∷ plain_pairs (drop (low + 1) pairs)) name
    parents-low name = ap (λ ps. parents (plain_pairs ps) name) (items_from pairs low pair within is)

    -- the pair there has another name
    next-past : (name : List ℕ) (place : Option ℕ) → bytes_eq pair.name name ≡ false → IsNextPlace pairs name (low + 1) place →
        IsNextPlace pairs name low place
    next-past name None miss next = parents-low name ∙ parents-past pair.name pair.target name _ miss ∙ next
    next-past name (Some place) miss next = (
      omega (arith, next.0),
      next.1,
      parents-low name ∙ parents-past pair.name pair.target name _ miss ∙ next.2,
      next.3,
    )

    -- the pair there is the first of its name
    next-here : (name : List ℕ) → bytes_eq pair.name name ≡ true → IsNextPlace pairs name low (Some low)
    next-here name hit = (
      omega arith,
      within,
      refl,
      λ other also. ap (λ (p : Pair). p.name) (same_item pairs low other pair within also is) ∙ (bytes_eq-Decides pair.name name).0 hit,
    )

    -- one place more
    pub indexed-more : (first later : List ℕ → Option ℕ) (next : List (Option ℕ)) (old : Option ℕ) → IsIndexed pairs (low + 1) first next →
        ((name : List ℕ) → later name ≡ update bytes_eq first pair.name (Some low) name) → old ≡ first pair.name →
        IsIndexed pairs low later (next ++ old ∷ [])
    indexed-more first later next old so_far updates was = record {
      size = omega (arith, so_far.size, length-append next (old ∷ []));
      firsts = firsts_now;
      nexts = nexts_now;
    }
      where
        firsts_now : (name : List ℕ) → IsNextPlace pairs name low (later name)
        firsts_now name =
            ⊎_elim
            (λ hit. subst (IsNextPlace pairs name low) (sym (updates name ∙ cond-true (bytes_eq pair.name name) (Some low) (first name) hit))
            (next-here name hit))
            (λ miss. subst (IsNextPlace pairs name low) (sym (updates name ∙ cond-false (bytes_eq pair.name name) (Some low) (first name) miss))
            (next-past name (first name) miss (so_far.firsts name)))
            (cases_Bool (bytes_eq pair.name name))

        nexts_now : (place k : ℕ) (other : Pair) → low ≤ place → k + (place + 1) ≡ length pairs → other ≡ get_or pairs place other →
            IsNextPlace pairs other.name (place + 1) (get_or (next ++ old ∷ []) k None)
        nexts_now place k other above size also =
            ⊎_elim
            (λ past.
            let inside : k < length next = omega (arith, so_far.size, past, size) in
            subst (IsNextPlace pairs other.name (place + 1)) (sym (get_or_append_left next (old ∷ []) None k inside))
            (so_far.nexts place k other (omega (arith, past)) size also))
            (λ here.
            let there : low ≡ place = omega (arith, above, here) in
            let last : length next ≡ k = omega (arith, so_far.size, there, size) in
            let same : pair.name ≡ other.name =
            ap (λ (p : Pair). p.name)
            (same_item pairs low pair other within is (subst (λ n. other ≡ get_or pairs n other) (sym there) also)) in
            let value : first pair.name ≡ get_or (next ++ old ∷ []) k None =
            sym was ∙ sym (get_or-append_seam next old [] None) ∙ ap (λ n. get_or (next ++ old ∷ []) n None) last in
            subst (λ n. IsNextPlace pairs other.name (n + 1) (get_or (next ++ old ∷ []) k None)) there
            (subst (λ n. IsNextPlace pairs n (low + 1) (get_or (next ++ old ∷ []) k None)) same
            (subst (IsNextPlace pairs pair.name (low + 1)) value (so_far.firsts pair.name))))
            (cases_lt low place)
