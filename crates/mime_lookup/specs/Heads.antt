-- Heads of lines of magic: bytes that stand in each window that equals a line's value.
use Rattle.std.specs.Prelude.{◌≡◌, ◌⊎◌, ℕ, ◌+◌, ◌-◌, ◌<◌, ◌≤◌, min, false, List, [], ◌∷◌, length, get_or, Option, slice_index}
use Rattle.std.specs.List.{All}
use Rattle.mime_base.specs.Magic.Holds.{bytes_of_mask, equals_from, line_holds}
use Rattle.mime_base.specs.Magic.WindowBytes.{windows_in}
use Rattle.mime_base.specs.Magic.{PlainLine, PlainMatchlet}
use Rattle.mime_base.specs.declared.magic.host.Host.{Host}
use Rattle.mime_lookup.specs.TopLines.{PlainTop}
use Rattle.mime_lookup.specs.declared.indexed.line_head.LineHead.{LineHead}

-- each byte of a content is below 256
abbrev pub AreBytes : List ℕ → Type 0
AreBytes content = (place : ℕ) → slice_index content place < 256

-- all bits of the bytes of a head count
pub record KeepsBytes (mask : Option (List ℕ)) (skip : ℕ) : Type 0 where
  pub first : get_or (bytes_of_mask mask) 0 255 ≡ 255
  pub second : get_or (bytes_of_mask mask) 1 255 ≡ 255
  pub third : get_or (bytes_of_mask mask) skip 255 ≡ 255
  pub fourth : get_or (bytes_of_mask mask) (skip + 1) 255 ≡ 255

-- the bytes of a head stand in the window at a place
pub record ShowsBytes (head : LineHead) (content : List ℕ) (place : ℕ) : Type 0 where
  pub first : slice_index content place ≡ head.first
  -- A value of one byte has no pairs.
  pub second : head.skip + 1 < head.size → slice_index content (place + 1) ≡ head.second
  pub third : head.skip + 1 < head.size → slice_index content (place + head.skip) ≡ head.third
  pub fourth : head.skip + 1 < head.size → slice_index content (place + head.skip + 1) ≡ head.fourth

-- The bytes of a head stand in none of the windows of its range that lie in a content.
pub record LacksBytes (head : LineHead) (content : List ℕ) : Type 0 where
  pub known : 0 < head.size
  pub bytes : AreBytes content
  pub lacks : (place : ℕ) → head.start ≤ place → place < head.start + head.range → place + head.size ≤ length content
      → ShowsBytes head content place → ⊥

-- a head refuses a content that is shorter than it says, or lacks its bytes
abbrev pub RefusesContent : LineHead → List ℕ → Type 0
RefusesContent head content = (length content < head.start + head.size) ⊎ LacksBytes head content

-- each head refuses a content of fewer than `shortest` bytes
abbrev pub AreNoneShorter : ℕ → List LineHead → Type 0
AreNoneShorter shortest heads = All (λ head. shortest ≤ head.start + head.size) heads

-- how many windows of a head's range lie wholly in a content of that length
abbrev pub head_windows : ℕ → LineHead → ℕ
head_windows size head = min head.range (size + 1 - (head.start + head.size))

-- A head is one of a line, without those below it.
pub record IsHead (head : LineHead) (own : PlainLine) : Type 0 where
  -- A content that it refuses has no window that equals the line's value.
  pub refuses : (content : List ℕ) (host : Host) → RefusesContent head content → equals_from own host content own.start own.range ≡ false
  -- It has no more windows than the line.
  pub within : (size : ℕ) → head_windows size head ≤ windows_in size own

-- A head is one of a line.
pub record IsHeadOf (head : LineHead) (line : PlainMatchlet) : Type 0 where
  -- The line doesn't hold for a content that it refuses.
  pub refuses : (content : List ℕ) (host : Host) → RefusesContent head content → line_holds line content host ≡ false
  -- It has no more windows than the line.
  pub within : (size : ℕ) → head_windows size head ≤ windows_in size line.own

-- each line of indent 0 has its head, in their order
abbrev pub AreLineHeads : List LineHead → List PlainTop → Type 0
AreLineHeads [] [] = Unit {0}
AreLineHeads [] (top ∷ tops) = ⊥
AreLineHeads (head ∷ heads) [] = ⊥
AreLineHeads (head ∷ heads) (top ∷ tops) = IsHeadOf head top.line × AreLineHeads heads tops
