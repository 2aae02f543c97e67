-- Worked rows of lines of magic on any bytes, which compute.
use Rattle.std.specs.Prelude.{◌≡◌, refl, ℕ, ◌+◌, true, false, List, [], ◌∷◌, ◌++◌, codes}
use Rattle.mime_base.specs.Cache.Bytes.{both_lie, card_bytes, cards, field}
use Rattle.mime_base.specs.Magic.Holds.{equals_from}
use Rattle.mime_base.specs.Magic.Masking.{window_equals}
use Rattle.mime_base.specs.declared.magic.host.Host.TheVariants.{Little}
use Rattle.mime_view.specs.Asked.{stated_bytes}
use Rattle.mime_view.specs.Magic.{line_at}

-- a chain of two lines with these bytes as values, which are wanted at the offset 0; each has one child, and the first's is the last
abbrev chain : ℕ → ℕ → List ℕ
chain first last =
    cards (0 ∷ 1 ∷ 1 ∷ 1 ∷ 64 ∷ 0 ∷ 1 ∷ 32 ∷ []) ++ (cards (0 ∷ 1 ∷ 1 ∷ 1 ∷ 65 ∷ 0 ∷ 1 ∷ 66 ∷ []) ++ (first ∷ last ∷ []))

-- the first line of `ab` equals `a`, and its one child is the last
first_equals : equals_from (line_at (chain 97 98) 0) Little (codes "a") 0 1 ≡ true
unfolding equals_from window_equals card_bytes field
first_equals = refl

child_of_first : field (chain 97 98) 0 7 ≡ 32
unfolding card_bytes field
child_of_first = refl

-- the last does not: so, whichever level it is on, its child is not too deep
last_differs : equals_from (line_at (chain 97 98) 32) Little (codes "a") 0 1 ≡ false
unfolding equals_from window_equals card_bytes field
last_differs = refl

-- that of `aa` does, and its value lies in the cache
last_equals : equals_from (line_at (chain 97 97) 32) Little (codes "a") 0 1 ≡ true
unfolding equals_from window_equals card_bytes field
last_equals = refl

last_lies : both_lie (chain 97 97) 65 0 1 ≡ true
unfolding card_bytes
last_lies = refl

-- two lines, of which the first states two value bytes and the second three
abbrev two_lines : List ℕ
two_lines = cards (0 ∷ 1 ∷ 1 ∷ 2 ∷ 0 ∷ 0 ∷ 0 ∷ 0 ∷ []) ++ cards (0 ∷ 1 ∷ 1 ∷ 3 ∷ 0 ∷ 0 ∷ 0 ∷ 0 ∷ [])

-- a line that was asked twice states its bytes twice
states_each : stated_bytes two_lines (0 ∷ 32 ∷ 32 ∷ []) ≡ 2 + 3 + 3
unfolding card_bytes field
states_each = refl

states_none : stated_bytes two_lines [] ≡ 0
states_none = refl
