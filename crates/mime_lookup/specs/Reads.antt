-- What a lookup does with its reader.
use Rattle.std.specs.Prelude.{◌≡◌, ◌≢◌, ◌⊎◌, ℕ, ◌-◌, ◌≤◌, Bool, true, false, List, Option, Result, IfErr, MatchResult, OnOk, ⊤}
use Rattle.mime_lookup.specs.Content.{Advances, GivesUp, Interrupts, Retries, Health, OfReader, Tally, broken, sound}
use Rattle.mime_lookup.specs.declared.stopped.Cause.{Cause}
use Rattle.mime_lookup.specs.declared.stopped.Cause.TheVariants.{OutOfMemory, Read}

-- a read failed, or an allocation was refused
abbrev pub IsReadOrMemory : Cause → Type 0
IsReadOrMemory cause = (cause ≡ Read) ⊎ (cause ≡ OutOfMemory)

-- a read that is tried again while it is interrupted: the retries that it used were just the interruptions, or it gives up
abbrev pub TriesAgain : {X : Type 0} → Option Tally → Option Tally → ℕ → ℕ → Result X Cause → Type 0
TriesAgain before after retries left result = MatchResult result
    (λ _. Interrupts before after (retries - left)) (λ cause. (cause ≡ Read) × GivesUp before after retries)

-- a lookup took that many bytes from its reader, within a limit, and answers or stops for what the reader tells
pub record Reads {R X : Type 0} (remaining : R → Option (List ℕ)) (tally : R → Option Tally) (health : R → Health)
    (limit : ℕ) (before after : Option R) (read : ℕ) (result : Result X Cause) : Type 0 where
  -- It stops for a read only where one failed, or was interrupted once more than is tried again.
  pub gives_up :
      IfErr result (λ cause. cause ≡ Read → OfReader (λ old new. GivesUp (tally old) (tally new) 1000) ⊥ before after)
  -- Where there is an answer, no read failed, and few enough were interrupted.
  pub goes : OnOk result (OfReader (λ old new. Retries (tally old) (tally new) 1000) ⊤ before after)
  -- It stops for a read only of a reader that can fail.
  pub fails : IfErr result (λ cause. cause ≡ Read → OfReader (λ old _. health old ≢ sound) ⊥ before after)
  -- The reader gave as many bytes as were read.
  pub advances : OfReader (λ old new. Advances (remaining old) (remaining new) read) (read ≡ 0) before after
  -- No more was read than the limit.
  pub within : read ≤ limit

-- a reader whose reads all fail was not asked where there is an answer, since the globs sufficed; and was where it was given up
pub record AsksUnless {R X : Type 0} (health : R → Health) (suffice : Bool) (before after : Option R) (result : Result X Cause) :
    Type 0 where
  -- Where there is an answer of a reader whose reads all fail, the globs sufficed.
  pub answers : OnOk result (OfReader (λ old _. health old ≡ broken → suffice ≡ true) ⊤ before after)
  -- Where a read stopped it, they didn't.
  pub asked : IfErr result (λ cause. cause ≡ Read → suffice ≡ false)

-- How a lookup uses its reader, within a limit.
pub record UsesReader {R X : Type 0} (remaining : R → Option (List ℕ)) (tally : R → Option Tally) (health : R → Health)
    (limit : ℕ) (suffice : Bool) (before after : Option R) (read : ℕ) (result : Result X Cause) : Type 0 where
  -- It takes no more of it than the limit, tries interrupted reads again, and gives up only where one failed.
  pub reader : Reads remaining tally health limit before after read result
  -- It asks it only where the globs do not suffice.
  pub asks : AsksUnless health suffice before after result
