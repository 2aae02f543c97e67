-- A loop over a list whose members take room.
use Rattle.std.proofs.Common.{◌≡◌, ℕ, ◌+◌, ◌<◌, ◌≤◌, List, [], ◌∷◌, ◌++◌, length, take, get_or, map, sum_by, sym}
use Rattle.std.proofs.Common.{ap, subst, ◌∙◌, arith}
use Rattle.std.proofs.lemmas.List.{map-append, take-map, take_all, take_more}
use Rattle.std.proofs.lemmas.List.Sums.{sum_by-append, sum_by-take-le}
use Rattle.mime_store.specs.Written.{Grew}
use Rattle.mime_store.proofs.BytesLemmas.Written.{grew_on, grew_length}

-- one member more, by its view
pub views_more : {X Y : Type 0} (view : X → Y) (xs : List X) (i : ℕ) (x : X) → i < length xs → x ≡ get_or xs i x
    → map view (take (i + 1) xs) ≡ map view (take i xs) ++ view x ∷ []
views_more view xs i x lt e =
    ap (map view) (take_more xs i x lt) ∙ map-append view (take i xs) (get_or xs i x ∷ [])
    ∙ ap (λ y. map view (take i xs) ++ view y ∷ []) (sym e)

-- what one member more takes
pub room_more : {X Y : Type 0} (view : X → Y) (room : Y → ℕ) (xs : List X) (i : ℕ) (x : X) → i < length xs
    → x ≡ get_or xs i x → sum_by room (map view (take (i + 1) xs)) ≡ sum_by room (map view (take i xs)) + room (view x)
room_more view room xs i x lt e =
    ap (sum_by room) (views_more view xs i x lt e) ∙ sum_by-append room (map view (take i xs)) (view x ∷ []) ∙ omega arith

-- what the first of them take is at most what all take
pub room_within : {X Y : Type 0} (view : X → Y) (room : Y → ℕ) (xs : List X) (i : ℕ)
    → sum_by room (map view (take i xs)) ≤ sum_by room (map view xs)
room_within view room xs i = rw (← take-map view i xs) (sum_by-take-le room (map view xs) i)

-- the next one fits where all fit
pub next_fits : {X Y : Type 0} (view : X → Y) (room : Y → ℕ) (xs : List X) (i : ℕ) (x : X) (old now : List ℕ) (bound : ℕ)
    → i < length xs → x ≡ get_or xs i x → Grew old now (sum_by room (map view (take i xs)))
    → length old + sum_by room (map view xs) < bound → length now + room (view x) < bound
next_fits view room xs i x old now bound lt e g fits =
    omega (
      arith,
      room_more view room xs i x lt e,
      room_within view room xs (i + 1),
      grew_length old now (sum_by room (map view (take i xs))) g,
    )

-- what grew by one member more
pub grew_more : {X Y : Type 0} (view : X → Y) (room : Y → ℕ) (xs : List X) (i : ℕ) (x : X) (old now next : List ℕ)
    → i < length xs → x ≡ get_or xs i x → Grew old now (sum_by room (map view (take i xs)))
    → Grew now next (room (view x)) → Grew old next (sum_by room (map view (take (i + 1) xs)))
grew_more view room xs i x old now next lt e g h =
    rw (room_more view room xs i x lt e)
    (grew_on old now next (sum_by room (map view (take i xs))) (room (view x)) g h)

-- at the end all of them have been gone over
pub grew_all : {X Y : Type 0} (view : X → Y) (room : Y → ℕ) (xs : List X) (i : ℕ) (old now : List ℕ) → length xs ≤ i
    → Grew old now (sum_by room (map view (take i xs))) → Grew old now (sum_by room (map view xs))
grew_all view room xs i old now le g = subst (λ ys. Grew old now (sum_by room (map view ys))) (take_all i xs le) g

-- the next member takes its room from what is left, or more than is left
pub room_step : {X Y : Type 0} (view : X → Y) (room : Y → ℕ) (xs : List X) (i : ℕ) (x : X) (left rest next : ℕ) → i < length xs
    → x ≡ get_or xs i x → next + room (view x) ≡ rest → rest + sum_by room (map view (take i xs)) ≡ left
    → next + sum_by room (map view (take (i + 1) xs)) ≡ left
room_step view room xs i x left rest next lt e took so = omega (arith, took, so, room_more view room xs i x lt e)

-- where the next member doesn't fit, all do not
pub room_short : {X Y : Type 0} (view : X → Y) (room : Y → ℕ) (xs : List X) (i : ℕ) (x : X) (left rest : ℕ) → i < length xs
    → x ≡ get_or xs i x → rest < room (view x) → rest + sum_by room (map view (take i xs)) ≡ left
    → left < sum_by room (map view xs)
room_short view room xs i x left rest lt e short so =
    omega (arith, short, so, room_more view room xs i x lt e, room_within view room xs (i + 1))
