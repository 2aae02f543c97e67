-- Marks on entries of the parent list: which types are marked after a mark more.
use Rattle.std.proofs.Common.{◌≡◌, ◌⊎◌, ℕ, ◌+◌, ◌*◌, Bool, true, false, List, [], ◌∷◌, cond}
use Rattle.std.proofs.Common.{Ordering, Less, Equal, Greater, nat_cmp}
use Rattle.std.proofs.Common.{true≢false, refl, sym, ap, inl, inr, ⊎_elim, ◌∙◌}
use Rattle.std.specs.Prelude.{◌||◌, ◌&&◌, ◌==◌, Result, Ok, Err, nat_lt}
use Rattle.std.specs.List.{list_any}
use Rattle.std.specs.Ordering.{is_eq, match_ordering}
use Rattle.std.proofs.Math.Bool.{or-true}
use Rattle.std.proofs.lemmas.Bool.{eqb-true, or_cases}
use Rattle.std.proofs.lemmas.Slice.Eq.{bytes_eq-Decides}
use Rattle.mime_base.specs.Cache.Bytes.{field}
use Rattle.mime_base.specs.Cache.Texts.{text_at}
use Rattle.mime_base.specs.declared.cache.byte_fault.ByteFault.{ByteFault}
use Rattle.mime_view.specs.Parents.{has_place, is_entry, is_marked, is_text, with_place}

-- one of two holds where the first does
or-left : (a b : Bool) → a ≡ true → (a || b) ≡ true
or-left a b is = rw is refl

-- and where the second does
or-right : (a b : Bool) → b ≡ true → (a || b) ≡ true
or-right a b is = rw is (or-true a)

-- what is among places and one more is among the places, or is the one
any_with-cases : (test : ℕ → Bool) (places : List ℕ) (place : ℕ) → list_any test (with_place places place) ≡ true
    → (list_any test places ≡ true) ⊎ (test place ≡ true)
any_with-cases test [] place is =
    ⊎_elim (λ here. inr here) (λ none. absurd (true≢false (sym none))) (or_cases (test place) false is)
any_with-cases test (first ∷ places) place is = by_order (nat_cmp place first) is (any_with-cases test places place)
  where
    by_order : (o : Ordering)
        → list_any test (match_ordering o (place ∷ first ∷ places) (first ∷ places) (first ∷ with_place places place)) ≡ true
        → (list_any test (with_place places place) ≡ true → (list_any test places ≡ true) ⊎ (test place ≡ true))
        → (list_any test (first ∷ places) ≡ true) ⊎ (test place ≡ true)
    by_order Less is more = ⊎_elim (λ here. inr here) (λ old. inl old) (or_cases (test place) (list_any test (first ∷ places)) is)
    by_order Equal is more = inl is
    by_order Greater is more =
        ⊎_elim
        (λ here. inl (or-left (test first) (list_any test places) here))
        (λ behind. ⊎_elim (λ old. inl (or-right (test first) (list_any test places) old)) (λ new. inr new) (more behind))
        (or_cases (test first) (list_any test (with_place places place)) is)

-- what is among places stays among them
any_with-still : (test : ℕ → Bool) (places : List ℕ) (place : ℕ) → list_any test places ≡ true
    → list_any test (with_place places place) ≡ true
any_with-still test [] place is = absurd (true≢false (sym is))
any_with-still test (first ∷ places) place is = by_order (nat_cmp place first) is (any_with-still test places place)
  where
    by_order : (o : Ordering) → list_any test (first ∷ places) ≡ true
        → (list_any test places ≡ true → list_any test (with_place places place) ≡ true)
        → list_any test (match_ordering o (place ∷ first ∷ places) (first ∷ places) (first ∷ with_place places place)) ≡ true
    by_order Less is more = or-right (test place) (list_any test (first ∷ places)) is
    by_order Equal is more = is
    by_order Greater is more =
        ⊎_elim
        (λ here. or-left (test first) (list_any test (with_place places place)) here)
        (λ behind. or-right (test first) (list_any test (with_place places place)) (more behind))
        (or_cases (test first) (list_any test places) is)

-- a place that was not among them is among them then
any_with-now : (test : ℕ → Bool) (places : List ℕ) (place : ℕ) → has_place places place ≡ false → test place ≡ true
    → list_any test (with_place places place) ≡ true
any_with-now test [] place new is = or-left (test place) false is
any_with-now test (first ∷ places) place new is =
    by_order (nat_cmp place first) new (λ rest. any_with-now test places place rest is)
  where
    by_order : (o : Ordering) → (is_eq o || has_place places place) ≡ false
        → (has_place places place ≡ false → list_any test (with_place places place) ≡ true)
        → list_any test (match_ordering o (place ∷ first ∷ places) (first ∷ places) (first ∷ with_place places place)) ≡ true
    by_order Less new more = or-left (test place) (list_any test (first ∷ places)) is
    by_order Equal new more = absurd (true≢false new)
    by_order Greater new more = or-right (test first) (list_any test (with_place places place)) (more new)

-- what was read is one text
one_text : (left right : List ℕ) (read : Result (List ℕ) ByteFault) → is_text left read ≡ true
    → is_text right read ≡ true → left ≡ right
one_text left right (Ok text) l r = sym ((bytes_eq-Decides text left).0 l) ∙ (bytes_eq-Decides text right).0 r
one_text left right (Err fault) l r = absurd (true≢false (sym l))

-- an entry has one type
entry_type : (c : List ℕ) (at : ℕ) (left right : List ℕ) (place : ℕ) → is_entry c at left place ≡ true
    → is_entry c at right place ≡ true → left ≡ right
unfolding is_entry
entry_type c at left right place l r = by_place (nat_lt place (field c at 0)) l r
  where
    by_place : (low : Bool) → (low && is_text left (text_at c (field c (at + 4 + 8 * place) 0))) ≡ true
        → (low && is_text right (text_at c (field c (at + 4 + 8 * place) 0))) ≡ true → left ≡ right
    by_place true l r = one_text left right (text_at c (field c (at + 4 + 8 * place) 0)) l r
    by_place false l r = absurd (true≢false (sym l))

-- numbers of the order Equal are the same
places_same : (a b : ℕ) → is_eq (nat_cmp a b) ≡ true → a ≡ b
places_same a b is = by_test (nat_lt a b) (a == b) refl is
  where
    by_test : (less same : Bool) → (a == b) ≡ same → is_eq (cond less Less (cond same Equal Greater)) ≡ true → a ≡ b
    by_test true same e is = absurd (true≢false (sym is))
    by_test false true e is = eqb-true a b e
    by_test false false e is = absurd (true≢false (sym is))

-- a test finds a place that is among places
any_place : (test : ℕ → Bool) (places : List ℕ) (place : ℕ) → test place ≡ true → has_place places place ≡ true
    → list_any test places ≡ true
any_place test [] place is among = absurd (true≢false (sym among))
any_place test (first ∷ places) place is among =
    ⊎_elim
    (λ here. or-left (test first) (list_any test places) (ap test (sym (places_same place first here)) ∙ is))
    (λ behind. or-right (test first) (list_any test places) (any_place test places place is behind))
    (or_cases (is_eq (nat_cmp place first)) (has_place places place) among)

-- a marked place marks its type
pub marked_here : (c : List ℕ) (at : ℕ) (marks kind : List ℕ) (place : ℕ) → is_entry c at kind place ≡ true
    → has_place marks place ≡ true → is_marked c at marks kind ≡ true
unfolding is_marked
marked_here c at marks kind place is among = any_place (is_entry c at kind) marks place is among

-- no type is marked by no place
pub marked-none : (c : List ℕ) (at : ℕ) (kind : List ℕ) → is_marked c at [] kind ≡ false
unfolding is_marked
marked-none c at kind = refl

module _ (c : List ℕ) (at : ℕ) (marks kind : List ℕ) (place : ℕ) (entry : is_entry c at kind place ≡ true)
    (new : has_place marks place ≡ false) where
  -- marked types stay marked
  pub marked_still : (x : List ℕ) → is_marked c at marks x ≡ true → is_marked c at (with_place marks place) x ≡ true
  unfolding is_marked
  marked_still x is = any_with-still (is_entry c at x) marks place is

  -- the type of the entry is marked
  pub marked_now : is_marked c at (with_place marks place) kind ≡ true
  unfolding is_marked
  marked_now = any_with-now (is_entry c at kind) marks place new entry

  -- no other type is marked
  pub marked_others : (x : List ℕ) → is_marked c at (with_place marks place) x ≡ true
      → (is_marked c at marks x ≡ true) ⊎ (x ≡ kind)
  unfolding is_marked
  marked_others x is =
      ⊎_elim
      (λ old. inl old)
      (λ here. inr (entry_type c at x kind place here entry))
      (any_with-cases (is_entry c at x) marks place is)
