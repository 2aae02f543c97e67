-- What a walk of magic says of a content by the records alone, whatever the bytes of the cache are.
use Rattle.std.specs.Prelude.{◌≡◌, ◌⊎◌, ℕ, zero, suc, ◌+◌, ◌*◌, ◌<◌, Bool, true, false, List, Ok, Option, None, Some}
use Rattle.std.specs.Borrow.{Bor}
use Rattle.mime_base.specs.Cache.Bytes.{both_lie, field}
use Rattle.mime_base.specs.Cache.Texts.{text_at}
use Rattle.mime_base.specs.Magic.Holds.{equals_from}
use Rattle.mime_base.specs.Magic.Ranges.{window_fits}
use Rattle.mime_base.specs.declared.magic.host.Host.{Host}
use Rattle.mime_view.specs.Magic.{EqualsAt, LiesBlock, line_at}

-- The line at r differs from its value at each offset of its range.
pub record DiffersAt (c content : List ℕ) (host : Host) (r : ℕ) : Type 0 where
  -- Where a window of its range lies in the content, its value lies in the cache, and its mask if it has one.
  pub lies : window_fits (field c r 3) (field c r 0) (field c r 1) content ≡ true
      → both_lie c (field c r 4) (field c r 5) (field c r 3) ≡ true
  -- Where they do, no window equals the value.
  pub differs : both_lie c (field c r 4) (field c r 5) (field c r 3) ≡ true
      → equals_from (line_at c r) host content (field c r 0) (field c r 1) ≡ false

-- it is so of each of that many records of a size
abbrev pub EachOf : (ℕ → Type 0) → ℕ → ℕ → ℕ → Type 0
EachOf Is first size count = (i : ℕ) → i < count → Is (first + size * i)

-- Of that many records of a size one holds, and each before it fails.
pub record FirstOf (Holds Fails : ℕ → Type 0) (first size count : ℕ) : Type 0 where
  -- Which record it is.
  pub place : ℕ
  -- It is one of them.
  pub within : place < count
  -- It holds.
  pub holds : Holds (first + size * place)
  -- Each before it fails.
  pub before : EachOf Fails first size place

-- The line at r equals its value, and its children lie in the cache.
pub record IsParent (c content : List ℕ) (host : Host) (r : ℕ) : Type 0 where
  -- It equals its value.
  pub equals : EqualsAt c r content host
  -- It has a child.
  pub some : 0 < field c r 6
  -- All of them lie in the cache.
  pub lies : LiesBlock c (field c r 7) 32 (field c r 6)

-- the line at r, with that many levels below it, doesn't hold: it differs, or none of its children holds
unfoldable pub FailsAt : ℕ → List ℕ → List ℕ → Host → ℕ → Type 0
FailsAt zero c content host r = DiffersAt c content host r
FailsAt (suc levels) c content host r =
    DiffersAt c content host r
    ⊎ (IsParent c content host r × EachOf (λ child. FailsAt levels c content host child) (field c r 7) 32 (field c r 6))

-- it holds: it equals its value, and has no children or one of them holds
unfoldable pub HoldsAt : ℕ → List ℕ → List ℕ → Host → ℕ → Type 0
HoldsAt zero c content host r = EqualsAt c r content host × (field c r 6 ≡ 0)
HoldsAt (suc levels) c content host r =
    (EqualsAt c r content host × (field c r 6 ≡ 0))
    ⊎ (IsParent c content host r × FirstOf (λ child. HoldsAt levels c content host child)
    (λ child. FailsAt levels c content host child) (field c r 7) 32 (field c r 6))

-- whether a line with that many levels below it holds
abbrev pub WalksLine : ℕ → List ℕ → List ℕ → Host → ℕ → Bool → Type 0
WalksLine levels c content host r true = HoldsAt levels c content host r
WalksLine levels c content host r false = FailsAt levels c content host r

-- whether one of that many lines holds
abbrev pub WalksLines : ℕ → List ℕ → List ℕ → Host → ℕ → ℕ → Bool → Type 0
WalksLines levels c content host first count true =
    FirstOf (HoldsAt levels c content host) (FailsAt levels c content host) first 32 count
WalksLines levels c content host first count false = EachOf (FailsAt levels c content host) first 32 count

-- A section at s holds or not: whether one of its lines does.
pub record WalksSection (c content : List ℕ) (host : Host) (holds : Bool) (s : ℕ) : Type 0 where
  -- Its lines lie in the cache.
  pub lies : LiesBlock c (field c s 3) 32 (field c s 2)
  -- Each may have 63 levels below it.
  pub lines : WalksLines 63 c content host (field c s 3) (field c s 2) holds

-- The type and the priority of the section at s.
pub record NamesSection (c : List ℕ) (s : ℕ) (pair : Bor (List ℕ) × ℕ) : Type 0 where
  -- The type is the text that it names.
  pub kind : text_at c (field c s 1) ≡ Ok pair.0.now
  -- The priority is its first number.
  pub priority : pair.1 ≡ field c s 0

-- The first section that holds gives this type and this priority.
pub record FindsSection (c content : List ℕ) (host : Host) (first count : ℕ) (pair : Bor (List ℕ) × ℕ) : Type 0 where
  -- It is the first of them.
  pub section : FirstOf (WalksSection c content host true) (WalksSection c content host false) first 16 count
  -- Both are its own.
  pub named : NamesSection c (first + 16 * section.place) pair

-- of the sections of the magic list at `at`: none holds, or the first that does gives the type and the priority
abbrev pub WalksMagic : List ℕ → List ℕ → Host → ℕ → Option (Bor (List ℕ) × ℕ) → Type 0
WalksMagic c content host at None = EachOf (WalksSection c content host false) (field c at 2) 16 (field c at 0)
WalksMagic c content host at (Some pair) = FindsSection c content host (field c at 2) (field c at 0) pair

-- the same of one section alone
abbrev pub WalksOne : List ℕ → List ℕ → Host → ℕ → Option (Bor (List ℕ) × ℕ) → Type 0
WalksOne c content host s None = WalksSection c content host false s
WalksOne c content host s (Some pair) = WalksSection c content host true s × NamesSection c s pair
