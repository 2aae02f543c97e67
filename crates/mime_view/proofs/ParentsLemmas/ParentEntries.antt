-- An entry of the parent list and the marks: where the list stands, a type is marked just where the place of its entry is.
use Rattle.std.proofs.Common.{◌≡◌, ℕ, ◌+◌, ◌*◌, ◌<◌, Bool, true, false, List, [], ◌∷◌, length, get_or, nat_cmp}
use Rattle.std.proofs.Common.{Less, Equal, Greater, cond, true≢false, refl, sym, ap, subst, ◌∙◌, arith}
use Rattle.std.specs.Prelude.{◌&&◌, ◌||◌, ◌==◌, Result, Ok, Err, nat_lt}
use Rattle.std.specs.List.{list_any}
use Rattle.std.proofs.Math.Bool.{or-true}
use Rattle.std.proofs.lemmas.Bool.{eqb-true, ltb-true, lt-ltb}
use Rattle.std.specs.Ordering.{is_eq}
use Rattle.std.proofs.lemmas.Bool.{false_from_ne_true}
use Rattle.std.proofs.lemmas.Cmp.{eq_by_cmp_equiv, nat_cmp_total, nat_list_eq_equiv}
use Rattle.std.proofs.lemmas.Slice.Eq.{bytes_eq-Decides}
use Rattle.mime_base.specs.Cache.Bytes.{field}
use Rattle.mime_base.specs.Cache.Texts.{text_at}
use Rattle.mime_base.specs.Database.Subclass.{parents}
use Rattle.mime_base.specs.declared.cache.byte_fault.ByteFault.{ByteFault}
use Rattle.mime_view.specs.Parents.{ReadsParents, ReadsTexts, has_place, is_entry, is_marked, is_text, parents_at, unmarked_parents}
use Rattle.mime_view.proofs.SearchLemmas.Places.{key_at}

-- what was read is this text
text_is : (kind : List ℕ) (read : Result (List ℕ) ByteFault) → is_text kind read ≡ true → read ≡ Ok kind
text_is kind (Ok text) is = ap (λ t. Ok t) ((bytes_eq-Decides text kind).0 is)
text_is kind (Err fault) is = absurd (true≢false (sym is))

-- an entry of the type
pub entry_is : (c : List ℕ) (at : ℕ) (kind : List ℕ) (place : ℕ) → place < field c at 0
    → text_at c (field c (at + 4 + 8 * place) 0) ≡ Ok kind → is_entry c at kind place ≡ true
unfolding is_entry
entry_is c at kind place l text = rw (lt-ltb place (field c at 0) l) (rw text (nat_list_eq_equiv.refl kind))

-- its place and its text
pub entry_of : (c : List ℕ) (at : ℕ) (kind : List ℕ) (place : ℕ) → is_entry c at kind place ≡ true
    → (place < field c at 0) × (text_at c (field c (at + 4 + 8 * place) 0) ≡ Ok kind)
unfolding is_entry
entry_of c at kind place is = by_place (nat_lt place (field c at 0)) refl is
  where
    by_place : (low : Bool) → nat_lt place (field c at 0) ≡ low → (low && is_text kind (text_at c (field c (at + 4 + 8 * place) 0))) ≡ true
        → (place < field c at 0) × (text_at c (field c (at + 4 + 8 * place) 0) ≡ Ok kind)
    by_place true low is = (ltb-true place (field c at 0) low, text_is kind (text_at c (field c (at + 4 + 8 * place) 0)) is)
    by_place false low is = absurd (true≢false (sym is))

-- numbers of the order Equal are the same
places_same : (a b : ℕ) → is_eq (nat_cmp a b) ≡ true → a ≡ b
places_same a b is = by_test (nat_lt a b) (a == b) refl is
  where
    by_test : (less same : Bool) → (a == b) ≡ same → is_eq (cond less Less (cond same Equal Greater)) ≡ true → a ≡ b
    by_test true same e is = absurd (true≢false (sym is))
    by_test false true e is = eqb-true a b e
    by_test false false e is = absurd (true≢false (sym is))

-- a marked place marks its type
pub marked_here : (c : List ℕ) (at : ℕ) (marks kind : List ℕ) (place : ℕ) → is_entry c at kind place ≡ true
    → has_place marks place ≡ true → is_marked c at marks kind ≡ true
unfolding is_marked
marked_here c at [] kind place is among = absurd (true≢false (sym among))
marked_here c at (mark ∷ marks) kind place is among =
    by_mark (is_eq (nat_cmp place mark)) refl among (marked_here c at marks kind place is)
  where
    by_mark : (same : Bool) → is_eq (nat_cmp place mark) ≡ same → (same || has_place marks place) ≡ true
        → (has_place marks place ≡ true → is_marked c at marks kind ≡ true)
        → (is_entry c at kind mark || list_any (is_entry c at kind) marks) ≡ true
    by_mark true same among more =
        let here : is_entry c at kind mark ≡ true = ap (is_entry c at kind) (sym (places_same place mark same)) ∙ is in
        rw here refl
    by_mark false same among more = rw (more among) (or-true (is_entry c at kind mark))

module _ (c : List ℕ) (at : ℕ) (pairs : List (List ℕ × List ℕ)) (kinds : List (List ℕ)) (reads : ReadsParents c at pairs kinds) where
  -- the type at the place of an entry
  pub kind_at : (kind : List ℕ) (place : ℕ) → is_entry c at kind place ≡ true → (place < length kinds) × (get_or kinds place [] ≡ kind)
  kind_at kind place is =
      let entry = entry_of c at kind place is in
      let n = reads.types.count in
      let below : place < length kinds = omega (arith, entry.0) in
      let text = key_at c (at + 4) 8 kinds place reads.types.texts below in
      (below, let e = sym text ∙ entry.1 in cc)

  -- a type has one entry
  entry_once : (kind : List ℕ) (i j : ℕ) → is_entry c at kind i ≡ true → is_entry c at kind j ≡ true → i ≡ j
  entry_once kind i j left right =
      let l = kind_at kind i left in
      let r = kind_at kind j right in
      reads.once i j l.0 r.0 (l.1 ∙ sym r.1)

  -- a type whose place is not marked is not marked
  pub unmarked_here : (marks kind : List ℕ) (place : ℕ) → is_entry c at kind place ≡ true → has_place marks place ≡ false
      → is_marked c at marks kind ≡ false
  unfolding is_marked
  unmarked_here [] kind place is among = refl
  unmarked_here (mark ∷ marks) kind place is among =
      by_mark (is_eq (nat_cmp place mark)) refl among (unmarked_here marks kind place is)
    where
      by_mark : (same : Bool) → is_eq (nat_cmp place mark) ≡ same → (same || has_place marks place) ≡ false
          → (has_place marks place ≡ false → is_marked c at marks kind ≡ false)
          → (is_entry c at kind mark || list_any (is_entry c at kind) marks) ≡ false
      by_mark true same among more = absurd (true≢false among)
      by_mark false same among more =
          let other : is_entry c at kind mark ≡ false = false_from_ne_true _ (λ here.
          let e = entry_once kind place mark is here in
          true≢false (sym ((eq_by_cmp_equiv nat_cmp_total).refl place) ∙ ap (λ n. is_eq (nat_cmp place n)) e ∙ same)) in
          rw other (more among)

  -- a type with an entry has a parent
  pub some_parent : (kind : List ℕ) (place : ℕ) → is_entry c at kind place ≡ true → 0 < length (parents pairs kind)
  some_parent kind place is =
      let here = kind_at kind place is in
      subst (λ (k : List ℕ). 0 < length (parents pairs k)) here.1 (reads.some place here.0)

  -- what is given for a marked entry
  pub marked_parents : (marks kind : List ℕ) (place : ℕ) → is_entry c at kind place ≡ true → has_place marks place ≡ true
      → unmarked_parents pairs (is_marked c at marks kind) kind ≡ []
  marked_parents marks kind place is among = rw (marked_here c at marks kind place is among) refl

  -- the parents of an entry that is not marked stand
  pub unmarked_read : (marks kind : List ℕ) (place : ℕ) → is_entry c at kind place ≡ true → has_place marks place ≡ false
      → ReadsTexts c (parents_at c at place) (unmarked_parents pairs (is_marked c at marks kind) kind)
  unmarked_read marks kind place is among =
      let here = kind_at kind place is in
      rw (unmarked_here marks kind place is among)
      (subst (λ (k : List ℕ). ReadsTexts c (parents_at c at place) (parents pairs k)) here.1 (reads.above place here.0))
