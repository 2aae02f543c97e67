-- The search for a subclass: what is marked, and what a type's expansion gives.
use Rattle.std.specs.Prelude.{◌≡◌, ◌⊎◌, ◌↔◌, ℕ, suc, zero, Bool, false, ◌||◌, if◌then◌else◌, IsTrue, List, [], ◌∷◌, ◌++◌, map, bytes_eq}
use Rattle.std.specs.Prelude.{Result, IfOk}
use Rattle.std.specs.Borrow.{Bor}
use Rattle.mime_base.specs.Database.Subclass.{Pairs, IsA, above}

-- the types that references name
abbrev pub kinds_of : List (Bor (List ℕ)) → List (List ℕ)
kinds_of = map (λ text. text.now)

-- whether a type is one of these
unfoldable pub is_one_of : List (List ℕ) → List ℕ → Bool
is_one_of [] kind = false
is_one_of (one ∷ more) kind = bytes_eq one kind || is_one_of more kind

-- whether a type is one of those that references name
abbrev pub is_among : List (Bor (List ℕ)) → List ℕ → Bool
is_among keys = is_one_of (kinds_of keys)

-- no marked type is the base or a subclass of it
abbrev pub NoneLeadsTo : (List ℕ → Bool) → Pairs → List ℕ → Type 0
NoneLeadsTo marked pairs base = (kind : List ℕ) → IsTrue (marked kind) → IsA pairs kind base → ⊥

-- how many pairs have a type that is not marked
unfoldable pub unmarked : List (List ℕ × List ℕ) → (List ℕ → Bool) → ℕ
unmarked [] marked = zero
unmarked (pair ∷ pairs) marked =
    if marked pair.0 then unmarked pairs marked else suc (unmarked pairs marked)

-- a type was expanded: all above it came to the end of the queue, or none since it was marked, and no other type was marked
pub record Expanded (pairs : Pairs) (kind : List ℕ) (before after : List ℕ → Bool) (queue queue_after : List (List ℕ)) : Type 0 where
  pub more : List (List ℕ)
  pub grown : queue_after ≡ queue ++ more
  pub all_or_none : (more ≡ above pairs kind) ⊎ (IsTrue (before kind) × (more ≡ []))
  pub marks : (x : List ℕ) → IsTrue (after x) → IsTrue (before x) ⊎ ((x ≡ kind) × (more ≡ above pairs kind))

-- What a search for a base answers, with these types marked before and after.
pub record AnswersSearch {E : Type 0} (pairs : Pairs) (kind base : List ℕ) (before after : List ℕ → Bool) (result : Result Bool E)
    : Type 0 where
  -- Unless a marked type leads to the base, it says whether this type does.
  pub answer : NoneLeadsTo before pairs base → IfOk result (λ is. IsTrue is ↔ IsA pairs kind base)
  -- Where it does not, none leads there of those that are marked then.
  pub marked : NoneLeadsTo before pairs base → IfOk result (λ is. is ≡ false → NoneLeadsTo after pairs base)
