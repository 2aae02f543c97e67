-- Items in the order of falling numbers.
use Rattle.std.specs.Prelude.{ℕ, List, [], ◌∷◌, if◌then◌else◌, nat_lt}

-- an item before the first whose number is not above its own
abbrev pub insert_falling : {A : Type 0} → (A → ℕ) → A → List A → List A
insert_falling number item [] = item ∷ []
insert_falling number item (first ∷ rest) =
    if nat_lt (number item) (number first)
    then first ∷ insert_falling number item rest else item ∷ first ∷ rest

-- the items by falling numbers; those of one number stay in their order
abbrev pub falling : {A : Type 0} → (A → ℕ) → List A → List A
falling number [] = []
falling number (item ∷ items) = insert_falling number item (falling number items)
