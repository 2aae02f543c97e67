-- Records that are gathered as one list of numbers, and then written.
use Rattle.std.proofs.Common.{◌≡◌, ℕ, ◌+◌, ◌*◌, ◌^◌, ◌<◌, List, [], ◌∷◌, ◌++◌, length, refl, sym, ap, subst, ◌∙◌, append_assoc}
use Rattle.std.proofs.Common.{arith, length-append, sum_by, ⊎_elim, lit<, ◌≤◌}
use Rattle.std.proofs.lemmas.List.{append-nil, get_or_append_left, get_or-append-add, get_or_past}
use Rattle.std.proofs.lemmas.List.Sums.{sum_by-cons}
use Rattle.std.proofs.lemmas.Bool.{cases_lt}
use Rattle.mime_base.specs.Cache.Bytes.{AreCards, card_bytes, cards}
use Rattle.mime_base.specs.Format.Records.{RecordsAt}
use Rattle.mime_store.specs.Lists.{RecordsIn, list_room}
use Rattle.mime_store.specs.Written.{Written}
use Rattle.mime_store.proofs.BytesLemmas.Written.{written_first, written_second}

-- one record more
pub records_push : {X : Type 0} (Is : X → List ℕ → Type 0) (numbers : List ℕ) (xs : List X) (x : X) (row : List ℕ)
    → RecordsIn Is numbers xs → Is x row → RecordsIn Is (numbers ++ row) (xs ++ x ∷ [])
records_push Is numbers [] x row h i = (row, [], ap (λ m. m ++ row) h ∙ sym (append-nil row), i, refl)
records_push Is numbers (y ∷ ys) x row h i =
    (h.0, h.1 ++ row, ap (λ m. m ++ row) h.2 ∙ append_assoc h.0 h.1 row, h.3, records_push Is h.1 ys x row h.4 i)

-- records of one kind are records of another
pub records_are : {X : Type 0} (Is Is' : X → List ℕ → Type 0) → ((x : X) (row : List ℕ) → Is x row → Is' x row)
    → (numbers : List ℕ) (xs : List X) → RecordsIn Is numbers xs → RecordsIn Is' numbers xs
records_are Is Is' f numbers [] h = h
records_are Is Is' f numbers (x ∷ xs) h = (h.0, h.1, h.2, f x h.0 h.3, records_are Is Is' f h.1 xs h.4)

-- the bytes of numbers, one list after another
pub cards-append : (ms ns : List ℕ) → cards (ms ++ ns) ≡ cards ms ++ cards ns
cards-append [] ns = refl
cards-append (m ∷ ms) ns =
    ap (λ xs. card_bytes m ++ xs) (cards-append ms ns) ∙ sym (append_assoc (card_bytes m) (cards ms) (cards ns))

-- a number takes four bytes
pub length-card : (n : ℕ) → length (card_bytes n) ≡ 4
unfolding card_bytes
length-card n = refl

-- numbers take four bytes each
pub length-cards : (numbers : List ℕ) → length (cards numbers) ≡ 4 * length numbers
length-cards [] = refl
length-cards (n ∷ numbers) = length-append (card_bytes n) (cards numbers) ∙ omega (arith, length-card n, length-cards numbers)

-- the first of some numbers of 32 bits
pub are_first : (ms ns : List ℕ) → AreCards (ms ++ ns) → AreCards ms
are_first ms ns h k =
    ⊎_elim (λ lt. subst (λ (n : ℕ). n < 2 ^ 32) (get_or_append_left ms ns 0 k lt) (h k))
    (λ le. rw (get_or_past ms k 0 le) (lit< tt)) (cases_lt k (length ms))

-- the others of some numbers of 32 bits
pub are_second : (ms ns : List ℕ) → AreCards (ms ++ ns) → AreCards ns
are_second ms ns h k = subst (λ (n : ℕ). n < 2 ^ 32) (get_or-append-add ms ns k 0) (h (length ms + k))

-- what members take is what their records take, and the rest
pub records_room : {X : Type 0} (Is : X → List ℕ → Type 0) (n : ℕ) (room : X → ℕ)
    → ((x : X) (row : List ℕ) → Is x row → length row ≡ n) → (numbers : List ℕ) (xs : List X) → RecordsIn Is numbers xs
    → list_room n room xs ≡ 4 * length numbers + sum_by room xs
records_room Is n room sized numbers [] h = rw h refl
records_room Is n room sized numbers (x ∷ xs) h =
    omega (
      arith,
      records_room Is n room sized h.1 xs h.4,
      sized x h.0 h.3,
      ap length h.2,
      length-append h.0 h.1,
      sum_by-cons (λ (y : _). 4 * n + room y) x xs,
      sum_by-cons room x xs,
    )

-- what members take beside their records is at most what they take
pub parts_within : {X : Type 0} (n : ℕ) (room : X → ℕ) (xs : List X) → sum_by room xs ≤ list_room n room xs
parts_within n room [] = omega arith
parts_within n room (x ∷ xs) =
    omega (arith, parts_within n room xs, sum_by-cons (λ (y : _). 4 * n + room y) x xs, sum_by-cons room x xs)

-- members are no more than the bytes that they take, where each has a number
pub members_fit : {X : Type 0} (n : ℕ) (room : X → ℕ) → 0 < n → (xs : List X) → length xs ≤ list_room n room xs
members_fit n room some [] = omega arith
members_fit n room some (x ∷ xs) = omega (arith, some, members_fit n room some xs, sum_by-cons (λ (y : _). 4 * n + room y) x xs)

-- records that were gathered, once they stand
pub records_stand : {X : Type 0} (Is Is' : X → List ℕ → Type 0) (n : ℕ) (c : List ℕ)
    → ((x : X) (row : List ℕ) → Is x row → (length row ≡ n) × Is' x row)
    → (numbers : List ℕ) (xs : List X) (at : ℕ) → RecordsIn Is numbers xs → AreCards numbers → Written c at (cards numbers)
    → RecordsAt (Written c) (4 * n) Is' at xs
records_stand Is Is' n c row_of numbers [] at h are w = tt
records_stand Is Is' n c row_of numbers (x ∷ xs) at h are w =
    let row = row_of x h.0 h.3 in
    let are' : AreCards (h.0 ++ h.1) = subst AreCards h.2 are in
    let w' : Written c at (cards h.0 ++ cards h.1) =
    subst (λ m. Written c at m) (ap cards h.2 ∙ cards-append h.0 h.1) w in
    let wide : length (cards h.0) ≡ 4 * n = length-cards h.0 ∙ ap (λ (k : ℕ). 4 * k) row.0 in
    let next : Written c (at + 4 * n) (cards h.1) =
    subst (λ (k : ℕ). Written c (at + k) (cards h.1)) wide (written_second c at (cards h.0) (cards h.1) w') in (
      h.0,
      record { small = are_first h.0 h.1 are'; stand = written_first c at (cards h.0) (cards h.1) w' },
      row.1,
      records_stand Is Is' n c row_of h.1 xs (at + 4 * n) h.4 (are_second h.0 h.1 are') next,
    )
