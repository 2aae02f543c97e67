-- Records of numbers in the bytes of a cache, over a predicate that says which bytes stand at which offset.
use Rattle.std.specs.Prelude.{ℕ, ◌+◌, List, [], ◌∷◌, length}
use Rattle.mime_base.specs.Cache.Bytes.{AreCards, cards}
use Rattle.mime_base.specs.Cache.Texts.{IsText, ended}

-- says of an offset and bytes that these bytes stand at this offset
abbrev pub Standing : Type 1
Standing = ℕ → List ℕ → Type 0

-- numbers of 32 bits stand one after another from `at` on
pub record CardsAt (S : Standing) (at : ℕ) (numbers : List ℕ) : Type 0 where
  pub small : AreCards numbers
  pub stand : S at (cards numbers)

-- for each x a record of `size` bytes, one after another, whose numbers are those of x
abbrev pub RecordsAt : {X : Type 0} → Standing → ℕ → (X → List ℕ → Type 0) → ℕ → List X → Type 0
RecordsAt S size Is at [] = Unit {0}
RecordsAt S size Is at (x ∷ xs) =
    (numbers : List ℕ) × CardsAt S at numbers × Is x numbers × RecordsAt S size Is (at + size) xs

-- a count, and that many records after it
pub record ListAt {X : Type 0} (S : Standing) (size : ℕ) (Is : X → List ℕ → Type 0) (at : ℕ) (xs : List X) : Type 0 where
  pub count : CardsAt S at (length xs ∷ [])
  pub records : RecordsAt S size Is (at + 4) xs

-- a text without a zero byte, of at most 255 bytes, stands with its zero
pub record TextAt (S : Standing) (at : ℕ) (text : List ℕ) : Type 0 where
  pub is_text : IsText text
  pub stand : S at (ended text)
