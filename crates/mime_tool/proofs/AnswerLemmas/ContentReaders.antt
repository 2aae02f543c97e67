-- What becomes of a content's reader in an answer from texts.
use Rattle.std.proofs.Common.{◌≡◌, ◌≢◌, ℕ, Bool, false, List, [], Option, None, Some, Result, Ok, Err, inl, inr, refl, sym, subst}
use Rattle.std.specs.Prelude.{⊤}
use Rattle.mime_base.specs.Database.{PlainDatabase}
use Rattle.mime_lookup.specs.CheckingOrder.{globs_suffice}
use Rattle.mime_lookup.specs.Content.{Advances, GivesUp, Health, OfReader, Retries, Tally, sound}
use Rattle.mime_lookup.specs.declared.order.Order.{Order}
use Rattle.mime_lookup.specs.declared.stopped.Cause.{Cause}
use Rattle.mime_lookup.specs.declared.stopped.Cause.TheVariants as cause
use Rattle.mime_lookup.specs.declared.stopped.Stopped.{Stopped}
use Rattle.mime_text.specs.DirTexts.{SayDatabase}
use Rattle.mime_text.specs.declared.dir_texts.DirTexts.{DirTexts}
use Rattle.mime_text.specs.declared.dir_texts.DirsFault.{DirsFault}
use Rattle.mime_text.specs.declared.dir_texts.DirsFault.TheVariants as dirs_fault
use Rattle.mime_tool.specs.FromTexts.{AsksOnly, AsksReader, IfStopped, IsReadFault, IsStoreFault, of_cause, of_dirs}
use Rattle.mime_tool.specs.FromTexts.{of_stopped}
use Rattle.mime_tool.specs.declared.from_texts.AnswerFault.{AnswerFault}
use Rattle.mime_tool.specs.declared.from_texts.AnswerFault.TheVariants as fault
use Rattle.mime_tool.specs.declared.from_texts.OwnedAnswer.{OwnedAnswer}
use Rattle.mime_tool.proofs.DirectoryLemmas.SaidDatabases.{one_database}

-- a fault of the directories is no stop of a lookup
no_stop : (f : DirsFault) → IfStopped (of_dirs f) (λ _. ⊥)
no_stop (dirs_fault.Magic i kind offset) = tt
no_stop dirs_fault.OutOfMemory = tt

-- so is none of reading them
pub dirs_early : (dirs : List DirTexts) (e : AnswerFault) → IsReadFault dirs e → IfStopped e (λ _. ⊥)
dirs_early dirs e is = subst (λ (x : AnswerFault). IfStopped x (λ _. ⊥)) (sym is.2) (no_stop is.0)

-- nor is one of writing the cache
pub store_early : (b : PlainDatabase) (e : AnswerFault) → IsStoreFault b e → IfStopped e (λ _. ⊥)
store_early b e (inl is) = subst (λ (x : AnswerFault). IfStopped x (λ _. ⊥)) (sym is) tt
store_early b e (inr is) = subst (λ (x : AnswerFault). IfStopped x (λ _. ⊥)) (sym is.0) tt

-- no byte was taken
none_taken : (known : Option (List ℕ)) → Advances known known 0
none_taken None = ([], tt, refl)
none_taken (Some bytes) = ([], refl, refl)

module _ {R : Type 0} (remaining : R → Option (List ℕ)) (tally : R → Option Tally) (health : R → Health) where
  -- that the content's reader took that many bytes
  abbrev Took : Option R → Option R → ℕ → Type 0
  Took before after read = OfReader (λ old new. Advances (remaining old) (remaining new) read) (read ≡ 0) before after

  -- a content of which nothing was taken is as it was
  untouched : (content : Option R) → Took content content 0
  untouched None = refl
  untouched (Some reader) = none_taken (remaining reader)

  -- a fault before the lookup leaves the reader as it was
  pub reader_early : (content : Option R) (e : AnswerFault) → IfStopped e (λ _. ⊥)
      → AsksReader remaining tally health content content (Err e)
  reader_early content (fault.Magic i f) early = record { gives_up = tt; goes = tt; fails = tt; advances = untouched content }
  reader_early content (fault.Store f) early = record { gives_up = tt; goes = tt; fails = tt; advances = untouched content }
  reader_early content (fault.Lookup stopped) early = absurd early
  reader_early content fault.OutOfMemory early =
      record { gives_up = tt; goes = tt; fails = tt; advances = (0, untouched content) }

  -- memory ran out after a lookup took that many bytes
  pub reader_lost : (before after : Option R) (read : ℕ) → Took before after read
      → AsksReader remaining tally health before after (Err fault.OutOfMemory)
  reader_lost before after read took = record { gives_up = tt; goes = tt; fails = tt; advances = (read, took) }

  -- an answer takes what the lookup took
  pub reader_answered : (before after : Option R) (answer : OwnedAnswer)
      → OfReader (λ old new. Retries (tally old) (tally new) 1000) ⊤ before after → Took before after answer.read
      → AsksReader remaining tally health before after (Ok answer)
  reader_answered before after answer goes took = record { gives_up = tt; goes = goes; fails = tt; advances = took }

  -- what a lookup's reader went through stays where its stop is passed on
  pub reader_stopped : (before after : Option R) (stopped : Stopped)
      → (stopped.cause ≡ cause.Read → OfReader (λ old new. GivesUp (tally old) (tally new) 1000) ⊥ before after)
      → (stopped.cause ≡ cause.Read → OfReader (λ old _. health old ≢ sound) ⊥ before after)
      → Took before after stopped.read → AsksReader remaining tally health before after (Err (of_stopped stopped))
  reader_stopped before after stopped gives_up fails took = go stopped.cause
    where
      go : (k : Cause) → AsksReader remaining tally health before after (Err (of_cause stopped k))
      go cause.NameTooLong = record { gives_up = gives_up; goes = tt; fails = fails; advances = took }
      go (cause.Cache f) = record { gives_up = gives_up; goes = tt; fails = fails; advances = took }
      go cause.Read = record { gives_up = gives_up; goes = tt; fails = fails; advances = took }
      go cause.OutOfMemory = record { gives_up = tt; goes = tt; fails = tt; advances = (stopped.read, took) }

-- a fault before the lookup says nothing of what was asked
pub asks_early : {R : Type 0} (health : R → Health) (suffice : Bool) (before after : Option R) (e : AnswerFault)
    → IfStopped e (λ _. ⊥) → AsksOnly health suffice before after (Err e)
asks_early health suffice before after (fault.Magic i f) early = tt
asks_early health suffice before after (fault.Store f) early = tt
asks_early health suffice before after (fault.Lookup stopped) early = absurd early
asks_early health suffice before after fault.OutOfMemory early = tt

-- what was asked before a stop that is passed on
pub asks_stopped : {R : Type 0} (health : R → Health) (suffice : Bool) (before after : Option R) (stopped : Stopped)
    → (stopped.cause ≡ cause.Read → suffice ≡ false) → AsksOnly health suffice before after (Err (of_stopped stopped))
asks_stopped health suffice before after stopped asked = go stopped.cause
  where
    go : (k : Cause) → AsksOnly health suffice before after (Err (of_cause stopped k))
    go cause.NameTooLong = asked
    go (cause.Cache f) = asked
    go cause.Read = asked
    go cause.OutOfMemory = tt

-- what was asked over the database that was read
pub asks_over : {R : Type 0} (health : R → Health) (dirs : List DirTexts) (read b : PlainDatabase) (name : List ℕ) (order : Order)
    (before after : Option R) (result : Result OwnedAnswer AnswerFault) → SayDatabase dirs read → SayDatabase dirs b
    → AsksOnly health (globs_suffice read name order) before after result → AsksOnly health (globs_suffice b name order) before after result
asks_over health dirs read b name order before after result is says asks =
    subst (λ (database : PlainDatabase). AsksOnly health (globs_suffice database name order) before after result)
    (one_database dirs read b is says) asks
