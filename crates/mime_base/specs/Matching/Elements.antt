-- The elements of a pattern, computed from its bytes.
use Rattle.std.specs.Prelude.{◌≡◌, ◌≢◌, ◌<◌, ℕ, zero, suc, ◌+◌, Bool, true, false, not, ◌&&◌, ◌||◌, ◌==◌, nat_le}
use Rattle.std.specs.Prelude.{if◌then◌else◌, List, [], ◌∷◌, length, drop, take, slice_index_or, min, position, Option}
use Rattle.std.specs.Prelude.{Some, None}
use Rattle.std.specs.List.{list_all, prefix_len}

-- an element that takes exactly one byte
pub data OneByte : Type 0 where
  any_byte : OneByte
  this_byte : ℕ → OneByte
  one_of : List (ℕ × ℕ) → OneByte
  none_of : List (ℕ × ℕ) → OneByte

-- an element of a pattern: `*`, or one that takes exactly one byte
pub data Element : Type 0 where
  any_bytes : Element
  one : OneByte → Element

-- the ranges, as pairs, that the bytes of a set spell
abbrev pub ranges : List ℕ → List (ℕ × ℕ)
ranges [] = []
ranges (low ∷ []) = (low, low) ∷ []
ranges (low ∷ dash ∷ []) = (low, low) ∷ (dash, dash) ∷ []
ranges (low ∷ dash ∷ high ∷ rest) =
    if dash == 45 then (low, high) ∷ ranges rest else (low, low) ∷ ranges (dash ∷ high ∷ rest)

-- whether the byte is in one of these ranges
abbrev pub in_ranges : List (ℕ × ℕ) → ℕ → Bool
in_ranges [] b = false
in_ranges (range ∷ rest) b = (nat_le range.0 b && nat_le b range.1) || in_ranges rest b

-- whether the element takes this byte
abbrev pub admits : OneByte → ℕ → Bool
admits any_byte b = true
admits (this_byte x) b = x == b
admits (one_of set) b = in_ranges set b
admits (none_of set) b = not (in_ranges set b)

-- whether a set begins with `!` or `^`
abbrev pub is_negated : List ℕ → Bool
is_negated [] = false
is_negated (b ∷ _) = b == 33 || b == 94

-- the bytes of a set after its negation
abbrev pub body : List ℕ → List ℕ
body rest = if is_negated rest then drop 1 rest else rest

-- how many bytes stand between the first member and the first `]` after it
abbrev pub end_of_set : List ℕ → Option ℕ
end_of_set rest = position (λ b. b == 93) (drop 1 (body rest))

-- the element that a `[` begins: a set, or the byte itself where no set ends
abbrev pub set_of : Option ℕ → List ℕ → OneByte
set_of None rest = this_byte 91
set_of (Some k) rest =
    let set = ranges (take (k + 1) (body rest)) in
    if is_negated rest then none_of set else one_of set

-- how many bytes a set has after its `[`; none where no set ends
abbrev pub set_width : Option ℕ → List ℕ → ℕ
set_width None rest = 0
set_width (Some k) rest = (k + 2) + (if is_negated rest then 1 else 0)

-- a `[` before these bytes begins a set of these members, and this stands after it
abbrev pub IsSet : List ℕ → Bool → List ℕ → List ℕ → Type 0
IsSet after negated members rest =
    (k : ℕ) × (end_of_set after ≡ Some k) × (negated ≡ is_negated after)
    × (members ≡ take (k + 1) (body after)) × (rest ≡ drop (set_width (Some k) after) after)

-- the one-byte element that begins with the byte `first`, which isn't `*`
abbrev pub one_byte : ℕ → List ℕ → OneByte
one_byte first rest =
    if first == 63 then any_byte
    else (if first == 92 then this_byte (slice_index_or rest 0 92)
    else (if first == 91 then set_of (end_of_set rest) rest
    else this_byte first))

-- how many bytes it has after the first
abbrev pub width_after : ℕ → List ℕ → ℕ
width_after first rest =
    if first == 92 then min 1 (length rest)
    else (if first == 91 then set_width (end_of_set rest) rest
    else 0)

-- the element that begins with this byte, by the bytes after it
abbrev pub element : ℕ → List ℕ → Element
element first rest = if first == 42 then any_bytes else one (one_byte first rest)

-- the elements of a text of which that many bytes belong to an element before
abbrev pub elements_after : ℕ → List ℕ → List Element
elements_after k [] = []
elements_after zero (b ∷ rest) = element b rest ∷ elements_after (width_after b rest) rest
elements_after (suc k) (b ∷ rest) = elements_after k rest

-- the elements of a whole pattern
unfoldable pub elements : List ℕ → List Element
elements text = elements_after 0 text

-- how many of the elements take one byte
abbrev pub singles : List Element → ℕ
singles [] = 0
singles (any_bytes ∷ elements) = singles elements
singles (one _ ∷ elements) = suc (singles elements)

-- the bytes `*`, `?`, `[` and `\`
abbrev pub is_special : ℕ → Bool
is_special b = b == 42 || b == 63 || b == 91 || b == 92

-- a text without special bytes: each of its bytes stands for itself
abbrev pub is_literal_text : List ℕ → Bool
is_literal_text text = list_all (λ b. not (is_special b)) text

-- how many bytes at its front do
abbrev pub itself_len : List ℕ → ℕ
itself_len text = prefix_len (λ b. not (is_special b)) text

-- none of the last that many bytes is a `]`, by which a set ends
abbrev pub HasNoEnd : ℕ → List ℕ → Type 0
HasNoEnd count [] = Unit {0}
HasNoEnd count (b ∷ rest) = (length rest < count → b ≢ 93) × HasNoEnd count rest
