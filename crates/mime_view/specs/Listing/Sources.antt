-- Where each rule stands that a program lists of a cache, whatever the bytes are.
use Rattle.std.specs.Prelude.{◌≡◌, ◌⊎◌, ℕ, ◌+◌, ◌*◌, ◌<◌, All, List, [], ◌∷◌, ◌++◌, length, Ok}
use Rattle.mime_base.specs.Cache.Bytes.{field}
use Rattle.mime_base.specs.Cache.Texts.{text_at}
use Rattle.mime_view.specs.Listing.{PlainListed, listed_by}
use Rattle.mime_view.specs.Listing.Faults.{IsNode}

-- The entry at `at` of a list of rules states this rule.
pub record IsEntryRule (c : List ℕ) (at : ℕ) (rule : PlainListed) : Type 0 where
  -- Its first number names the pattern.
  pub pattern : text_at c (field c at 0) ≡ Ok rule.pattern
  -- Its second names the type.
  pub kind : text_at c (field c at 1) ≡ Ok rule.kind
  -- Its third has the weight and the flag.
  pub is : rule ≡ listed_by (field c at 2) rule.kind rule.pattern

-- one of the entries of the list at `at` does
abbrev pub IsListRule : List ℕ → ℕ → PlainListed → Type 0
IsListRule c at rule = (i : ℕ) × (i < field c at 0) × IsEntryRule c (at + 4 + 12 * i) rule

-- The leaf at r, below an ending, states this rule.
pub record IsLeafRule (c : List ℕ) (r : ℕ) (ending : List ℕ) (rule : PlainListed) : Type 0 where
  -- It is a leaf.
  pub leaf : field c r 0 ≡ 0
  -- It is none of the roots.
  pub some : 0 < length ending
  -- Its second number names the type.
  pub kind : text_at c (field c r 1) ≡ Ok rule.kind
  -- Its third has the weight and the flag, and the pattern is a `*` and the ending.
  pub is : rule ≡ listed_by (field c r 2) rule.kind (42 ∷ ending)

-- nodes of these characters, each a byte and below the one before, lead from the record at `at` down to the one at r
abbrev pub LeadsBy : List ℕ → List ℕ → ℕ → ℕ → Type 0
LeadsBy c [] at r = r ≡ at
LeadsBy c (character ∷ path) at r =
    (field c at 0 ≡ character) × IsNode c at × ((i : ℕ) × (i < field c at 1) × LeadsBy c path (field c at 2 + 12 * i) r)

-- an ending after these characters, each put before the one that was put before
abbrev pub grown : List ℕ → List ℕ → List ℕ
grown [] ending = ending
grown (character ∷ path) ending = grown path (character ∷ ending)

-- One of that many siblings below an ending states this rule, or a leaf that one of them leads to.
pub record IsSiblingsRule (c : List ℕ) (first count : ℕ) (ending : List ℕ) (rule : PlainListed) : Type 0 where
  -- Which sibling it is that leads there.
  pub i : ℕ
  -- It is one of them.
  pub within : i < count
  -- By which characters.
  pub path : List ℕ
  -- The leaf.
  pub r : ℕ
  -- They lead to it.
  pub leads : LeadsBy c path (first + 12 * i) r
  -- It states the rule.
  pub leaf : IsLeafRule c r (grown path ending) rule

-- a leaf of the tree at `at` does
abbrev pub IsTreeRule : List ℕ → ℕ → PlainListed → Type 0
IsTreeRule c at rule = IsSiblingsRule c (field c at 1) (field c at 0) [] rule

-- this rule is one of a literal list, a tree and a glob list at these offsets
abbrev pub IsRuleAt : List ℕ → ℕ → ℕ → ℕ → PlainListed → Type 0
IsRuleAt c literals tree globs rule = IsListRule c literals rule ⊎ IsTreeRule c tree rule ⊎ IsListRule c globs rule

-- of the three lists of a cache, which its header names
abbrev pub IsRuleOf : List ℕ → PlainListed → Type 0
IsRuleOf c rule = IsRuleAt c (field c 0 3) (field c 0 4) (field c 0 5) rule

-- What a step adds to a listing: rules of this kind, after the others.
pub record AddsSome (Is : PlainListed → Type 0) (before after : List PlainListed) : Type 0 where
  -- Which rules.
  pub more : List PlainListed
  -- They are after the others.
  pub is : after ≡ before ++ more
  -- Each is of the kind.
  pub all : All Is more
