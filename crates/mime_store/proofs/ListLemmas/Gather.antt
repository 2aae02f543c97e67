-- A loop that writes what belongs to each member, and gathers the records.
use Rattle.std.proofs.Common.{◌≡◌, ℕ, ◌+◌, ◌*◌, ◌<◌, ◌≤◌, List, ◌++◌, length, take, get_or, map, sum_by, subst}
use Rattle.std.proofs.lemmas.List.{take_all}
use Rattle.mime_base.specs.Format.Records.{CardsAt, RecordsAt, Standing}
use Rattle.mime_store.specs.Lists.{IsRow, RecordsIn, list_room}
use Rattle.mime_store.specs.Written.{Grew, Written}
use Rattle.mime_store.proofs.ListLemmas.Loops.{views_more}
use Rattle.mime_store.proofs.BytesLemmas.Records.{records_are, records_push, records_room, records_stand}
use Rattle.mime_store.proofs.BytesLemmas.Written.{Carries, grew_on, written_more}

-- says of what stands, of a member and of numbers that they are its record
abbrev pub Records : Type 0 → Type 1
Records Y = Standing → Y → List ℕ → Type 0

-- records stay what they are as more is written
abbrev pub Keeps : {Y : Type 0} → Records Y → Type 1
Keeps {Y = Y} Is = (S S' : Standing) → Carries S S' → (y : Y) (row : List ℕ) → Is S y row → Is S' y row

-- a record of n numbers is a row, where it stays what it is
pub row_is : {Y : Type 0} (Is : Records Y) → Keeps Is → (n : ℕ) (c : List ℕ) (y : Y) (row : List ℕ) → length row ≡ n
    → Is (Written c) y row → IsRow Is n c y row
row_is Is keeps n c y row long h =
    record { long = long; stays = λ d size g. keeps (Written c) (Written d) (written_more c d size g) y row h }

-- a row stays one as bytes grow
row_more : {Y : Type 0} (Is : Records Y) (n : ℕ) (c d : List ℕ) (size : ℕ) → Grew c d size → (y : Y) (row : List ℕ)
    → IsRow Is n c y row → IsRow Is n d y row
row_more Is n c d size g y row h = record { long = h.long; stays = λ e more g'. h.stays e (size + more) (grew_on c d e size more g g') }

-- what members take is what their rows take, and the rest
pub rows_room : {Y : Type 0} (Is : Records Y) (n : ℕ) (room : Y → ℕ) (c numbers : List ℕ) (ys : List Y)
    → RecordsIn (IsRow Is n c) numbers ys → list_room n room ys ≡ 4 * length numbers + sum_by room ys
rows_room Is n room c numbers ys h = records_room (IsRow Is n c) n room (λ y row r. r.long) numbers ys h

-- one row more was gathered
pub gather_push : {X Y : Type 0} (view : X → Y) (Is : Records Y) (n size : ℕ) (now next : List ℕ) (numbers row : List ℕ)
    (xs : List X) (i : ℕ) (x : X) → i < length xs → x ≡ get_or xs i x → Grew now next size
    → RecordsIn (IsRow Is n now) numbers (map view (take i xs)) → IsRow Is n next (view x) row
    → RecordsIn (IsRow Is n next) (numbers ++ row) (map view (take (i + 1) xs))
gather_push view Is n size now next numbers row xs i x lt e g h is =
    rw (views_more view xs i x lt e)
    (records_push (IsRow Is n next) numbers (map view (take i xs)) (view x) row
    (records_are (IsRow Is n now) (IsRow Is n next) (row_more Is n now next size g) numbers (map view (take i xs)) h) is)

-- at the end all rows were gathered
pub gather_all : {X Y : Type 0} (view : X → Y) (Is : Records Y) (n : ℕ) (c numbers : List ℕ) (xs : List X) (i : ℕ) → length xs ≤ i
    → RecordsIn (IsRow Is n c) numbers (map view (take i xs)) → RecordsIn (IsRow Is n c) numbers (map view xs)
gather_all view Is n c numbers xs i all h = subst (λ ys. RecordsIn (IsRow Is n c) numbers (map view ys)) (take_all i xs all) h

-- rows that were gathered stand where they were written
pub gather_end : {Y : Type 0} (Is : Records Y) (n size at : ℕ) (now next numbers : List ℕ) (ys : List Y) → Grew now next size
    → RecordsIn (IsRow Is n now) numbers ys → CardsAt (Written next) at numbers
    → RecordsAt (Written next) (4 * n) (Is (Written next)) at ys
gather_end Is n size at now next numbers ys g h s =
    records_stand (IsRow Is n now) (Is (Written next)) n next (λ y row r. (r.long, r.stays next size g)) numbers ys at h s.small s.stand
