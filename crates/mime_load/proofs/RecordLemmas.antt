-- Records one after another, one more at their end, and that at a place.
use Rattle.std.proofs.Common.{◌≡◌, ℕ, zero, suc, ◌+◌, ◌*◌, ◌<◌, List, [], ◌∷◌, ◌++◌, length, get_or, map, ap, sym, subst, ◌∙◌, arith}
use Rattle.std.proofs.lemmas.List.{length-map, map-append}
use Rattle.mime_base.specs.Format.Records.{CardsAt, ListAt, RecordsAt, Standing}
use Rattle.mime_load.specs.Parts.{RecordAt}

-- one more record
pub records_more : {X : Type 0} (S : Standing) (size : ℕ) (Is : X → List ℕ → Type 0) (at next : ℕ) (xs : List X) (x : X)
    → RecordsAt S size Is at xs → at + size * length xs ≡ next → RecordAt S Is next x → RecordsAt S size Is at (xs ++ x ∷ [])
records_more S size Is at next [] x stand is one =
    let here = subst (λ (k : ℕ). CardsAt S k one.numbers) (sym is ∙ (omega arith)) one.cards in
    (one.numbers, here, one.is, tt)
records_more S size Is at next (y ∷ xs) x (numbers, here, says, rest) is one =
    (numbers, here, says, records_more S size Is (at + size) next xs x rest (move size (length xs) at next is) one)
  where
    move : (s n at next : ℕ) → at + s * suc n ≡ next → at + s + s * n ≡ next
    move s n at next is = omega (arith, is)

-- a pushed element at the next place
pub records_pushed : {X Y : Type 0} (S : Standing) (size : ℕ) (Is : X → List ℕ → Type 0) (plain : Y → X) (first i : ℕ) (before after : List Y)
    (y : Y) → after ≡ before ++ y ∷ [] → length before ≡ i → RecordsAt S size Is first (map plain before)
    → RecordAt S Is (first + size * i) (plain y) → RecordsAt S size Is first (map plain after)
records_pushed S size Is plain first i before after y is long stand one =
    rw (is, map-append plain before (y ∷ []))
    (records_more S size Is first (first + size * i) (map plain before) (plain y) stand
    (ap (λ (n : ℕ). first + size * n) (length-map before plain ∙ long)) one)

-- all records of a list, and its count
pub list_whole : {X Y : Type 0} (S : Standing) (size : ℕ) (Is : X → List ℕ → Type 0) (plain : Y → X) (at count : ℕ) (ys : List Y)
    → CardsAt S at (count ∷ []) → length ys ≡ count → RecordsAt S size Is (at + 4) (map plain ys) → ListAt S size Is at (map plain ys)
list_whole S size Is plain at count ys head long stand =
    record { count = subst (λ (n : ℕ). CardsAt S at (n ∷ [])) (sym long ∙ sym (length-map ys plain)) head; records = stand }

-- the same of elements that are plain themselves
pub list_said : {X : Type 0} (S : Standing) (size : ℕ) (Is : X → List ℕ → Type 0) (at count : ℕ) (xs : List X)
    → CardsAt S at (count ∷ []) → length xs ≡ count → RecordsAt S size Is (at + 4) xs → ListAt S size Is at xs
list_said S size Is at count xs head long stand =
    record { count = subst (λ (n : ℕ). CardsAt S at (n ∷ [])) (sym long) head; records = stand }

-- the record of the member at a place
pub record_at : {X : Type 0} (S : Standing) (size : ℕ) (Is : X → List ℕ → Type 0) (at i there : ℕ) (xs : List X) (d : X)
    → i < length xs → at + size * i ≡ there → RecordsAt S size Is at xs → RecordAt S Is there (get_or xs i d)
record_at S size Is at i there [] d within place stand = absurd (omega arith)
record_at S size Is at zero there (x ∷ xs) d within place (numbers, cards, is, rest) =
    record { numbers = numbers; cards = subst (λ (k : ℕ). CardsAt S k numbers) (omega (arith, place)) cards; is = is }
record_at S size Is at (suc i) there (x ∷ xs) d within place (numbers, cards, is, rest) =
    record_at S size Is (at + size) i there xs d (omega arith) (move size i at there place) rest
  where
    move : (s n at next : ℕ) → at + s * suc n ≡ next → at + s + s * n ≡ next
    move s n at next is = omega (arith, is)
