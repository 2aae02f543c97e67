-- What stands in a cache reads back: records of numbers, lists of them, and texts.
use Rattle.std.proofs.Common.{◌≡◌, ℕ, zero, suc, ◌+◌, ◌*◌, ◌<◌, ◌≤◌, List, [], ◌∷◌, length, length-append, get_or, Ok, refl, ap, arith}
use Rattle.mime_base.specs.Cache.Bytes.{Stands, card_bytes, cards, field, fields}
use Rattle.mime_base.specs.Cache.Texts.{text_at}
use Rattle.mime_base.specs.Format.Records.{CardsAt, ListAt, RecordsAt, TextAt}
use Rattle.mime_base.proofs.CacheLemmas.Numbers.{fields-standing, length-card_bytes}
use Rattle.mime_base.proofs.CacheLemmas.Standing.{Stands-inside}
use Rattle.mime_base.proofs.CacheLemmas.TextsStand.{text_at-standing}

-- numbers that stand read back
pub numbers_read : (c : List ℕ) (at : ℕ) (numbers : List ℕ) → CardsAt (Stands c) at numbers → fields c at (length numbers) ≡ numbers
numbers_read c at numbers stand = fields-standing c at numbers stand.small stand.stand

-- the first number of a record that stands
pub first_read : (c : List ℕ) (at n : ℕ) (numbers : List ℕ) → CardsAt (Stands c) at (n ∷ numbers) → field c at 0 ≡ n
first_read c at n numbers stand = ap (λ (ns : List ℕ). get_or ns 0 0) (numbers_read c at (n ∷ numbers) stand)

-- the second
pub second_read : (c : List ℕ) (at m n : ℕ) (numbers : List ℕ) → CardsAt (Stands c) at (m ∷ n ∷ numbers) → field c at 1 ≡ n
second_read c at m n numbers stand = ap (λ (ns : List ℕ). get_or ns 1 0) (numbers_read c at (m ∷ n ∷ numbers) stand)

-- that many numbers have four times as many bytes
length-cards : (numbers : List ℕ) → length (cards numbers) ≡ 4 * length numbers
length-cards [] = refl
length-cards (n ∷ numbers) = omega (arith, length-append (card_bytes n) (cards numbers), length-card_bytes n, length-cards numbers)

-- a record that stands lies in the cache
pub record_inside : (c : List ℕ) (at : ℕ) (numbers : List ℕ) → CardsAt (Stands c) at numbers → at + 4 * length numbers ≤ length c
record_inside c at numbers stand = omega (arith, Stands-inside c at (cards numbers) stand.stand, length-cards numbers)

-- the record i of those that stand, and the numbers of its member
pub record_at : {X : Type 0} (c : List ℕ) (size : ℕ) (Is : X → List ℕ → Type 0) (at : ℕ) (xs : List X) (i : ℕ) (d : X) → i < length xs
    → RecordsAt (Stands c) size Is at xs → (numbers : List ℕ) × CardsAt (Stands c) (at + size * i) numbers × Is (get_or xs i d) numbers
record_at c size Is at [] i d l stand = absurd (omega arith)
record_at c size Is at (x ∷ xs) zero d l (numbers, here, is, rest) = let e : at + size * 0 ≡ at = omega arith in rw e (numbers, here, is)
record_at c size Is at (x ∷ xs) (suc i) d l (numbers, here, is, rest) =
    let m : size * suc i ≡ size + size * i = omega arith in
    let e : at + size * suc i ≡ at + size + size * i = omega arith in
    rw e (record_at c size Is (at + size) xs i d (omega arith) rest)

-- records of their size lie in the cache
pub records_inside : {X : Type 0} (c : List ℕ) (size : ℕ) (Is : X → List ℕ → Type 0) (at : ℕ) (xs : List X)
    → ((x : X) (numbers : List ℕ) → Is x numbers → 4 * length numbers ≡ size) → at ≤ length c
    → RecordsAt (Stands c) size Is at xs → at + size * length xs ≤ length c
records_inside c size Is at [] wide low stand = omega arith
records_inside c size Is at (x ∷ xs) wide low (numbers, here, is, rest) =
    let m : size * length (x ∷ xs) ≡ size + size * length xs = omega arith in
    let inside = record_inside c at numbers here in
    let w = wide x numbers is in
    omega (arith, records_inside c size Is (at + size) xs wide (omega arith) rest)

-- a text that stands reads back
pub text_read : (c : List ℕ) (at : ℕ) (text : List ℕ) → TextAt (Stands c) at text → text_at c at ≡ Ok text
text_read c at text stand = text_at-standing c at text stand.is_text stand.stand

-- the count of a list that stands
pub count_read : {X : Type 0} (c : List ℕ) (size : ℕ) (Is : X → List ℕ → Type 0) (at : ℕ) (xs : List X)
    → ListAt (Stands c) size Is at xs → field c at 0 ≡ length xs
count_read c size Is at xs stand = first_read c at (length xs) [] stand.count

-- a list of records of their size lies in the cache
pub list_inside : {X : Type 0} (c : List ℕ) (size : ℕ) (Is : X → List ℕ → Type 0) (at : ℕ) (xs : List X)
    → ((x : X) (numbers : List ℕ) → Is x numbers → 4 * length numbers ≡ size)
    → ListAt (Stands c) size Is at xs → at + 4 + size * length xs ≤ length c
list_inside c size Is at xs wide stand =
    let inside = record_inside c at (length xs ∷ []) stand.count in
    records_inside c size Is (at + 4) xs wide (omega arith) stand.records
