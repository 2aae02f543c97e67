-- What readers of contents tell: their bytes, their reads that failed or were interrupted, and whether reads can fail.
use Rattle.std.specs.Prelude.{◌≡◌, ◌⊎◌, ℕ, ◌+◌, ◌<◌, ◌≤◌, List, length, Option, None, Some, Result, Ok, Err, IsOk, ⊤}
use Rattle.std.specs.Io.KnownBytes.{Consumes}
use Rattle.std.specs.Option.{option_map}
use Rattle.mime_lookup.specs.declared.content.ReadFault.{ReadFault}
use Rattle.mime_lookup.specs.declared.content.ReadFault.TheVariants.{Interrupted, Failed}

-- how many reads failed and how many were interrupted so far
pub record Tally : Type 0 where
  pub failed : ℕ
  pub interrupted : ℕ

-- a tally after a read
abbrev pub after_read : Result ℕ ReadFault → Tally → Tally
after_read (Ok count) tally = tally
after_read (Err Interrupted) tally = record tally { interrupted = tally.interrupted + 1 }
after_read (Err Failed) tally = record tally { failed = tally.failed + 1 }

-- a reader that tells counts each of its reads
abbrev pub Counts : Option Tally → Option Tally → Result ℕ ReadFault → Type 0
Counts None after result = ⊤
Counts (Some before) None result = ⊥
Counts (Some before) (Some after) result = after ≡ after_read result before

-- what a reader tells of its reads: all give bytes or the end, all fail, or nothing is said
pub data Health : Type 0 where
  sound : Health
  broken : Health
  untold : Health

-- a sound reader answers and stays sound, a broken one fails and stays broken
abbrev pub KeepsHealth : Health → Health → Result ℕ ReadFault → Type 0
KeepsHealth sound after result = IsOk result × (after ≡ sound)
KeepsHealth broken after result = (result ≡ Err Failed) × (after ≡ broken)
KeepsHealth untold after result = ⊤

-- no read failed, and just that many were interrupted
abbrev pub Interrupts : Option Tally → Option Tally → ℕ → Type 0
Interrupts None after count = ⊤
Interrupts (Some before) None count = ⊥
Interrupts (Some before) (Some after) count = after ≡ record before { interrupted = before.interrupted + count }

-- a read failed, or more were interrupted than may be tried again
abbrev pub GivesUp : Option Tally → Option Tally → ℕ → Type 0
GivesUp None after retries = ⊤
GivesUp (Some before) None retries = ⊥
GivesUp (Some before) (Some after) retries =
    (before.failed < after.failed) ⊎ (before.interrupted + retries < after.interrupted)

-- no read failed, and no more were interrupted than may be tried again
abbrev pub Retries : Option Tally → Option Tally → ℕ → Type 0
Retries before after retries = (count : ℕ) × (count ≤ retries) × Interrupts before after count

-- what a lookup takes for the content, where it is known: none is known not to be available
abbrev pub known_content : {R : Type 0} → (R → Option (List ℕ)) → Option R → Option (Option (List ℕ))
known_content remaining None = Some None
known_content remaining (Some reader) = option_map (λ bytes. Some bytes) (remaining reader)

-- what the content may be, whatever is known of it: there is none where none is available, else it has some bytes
abbrev pub MayBe : {R : Type 0} → Option R → Option (List ℕ) → Type 0
MayBe None content = content ≡ None
MayBe (Some reader) content = (bytes : List ℕ) × (content ≡ Some bytes)

-- a reader stays, and its states before and after are so; of no reader another fact holds
abbrev pub OfReader : {R : Type 0} → (R → R → Type 0) → Type 0 → Option R → Option R → Type 0
OfReader IsSo Otherwise None None = Otherwise
OfReader IsSo Otherwise None (Some after) = ⊥
OfReader IsSo Otherwise (Some before) None = ⊥
OfReader IsSo Otherwise (Some before) (Some after) = IsSo before after

-- the known bytes advanced by that many
abbrev pub Advances : Option (List ℕ) → Option (List ℕ) → ℕ → Type 0
Advances before after count = (bytes : List ℕ) × Consumes before after bytes × (length bytes ≡ count)
