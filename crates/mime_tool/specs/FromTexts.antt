-- What an answer from the texts of data directories comes to.
use Rattle.std.specs.Prelude.{◌≡◌, ◌≢◌, ◌⊎◌, ◌↔◌, ◌<◌, ◌≤◌, ℕ, zero, suc, Bool, true, false, List, [], ◌∷◌, length, Option, Some, None}
use Rattle.std.specs.Prelude.{IfSome, Result, Ok, Err, IfErr, OnOk, ⊤}
use Rattle.mime_base.specs.Database.{PlainDatabase}
use Rattle.mime_base.specs.Format.Room.{room}
use Rattle.mime_base.specs.Format.Spells.{cache_limit}
use Rattle.mime_base.specs.declared.magic.host.Host.{Host}
use Rattle.mime_base.specs.declared.meter.Meter.{Meter}
use Rattle.mime_lookup.specs.Bounds.{bytes_max, nodes_max}
use Rattle.mime_lookup.specs.CheckingOrder.{Chooses, globs_suffice, read_of}
use Rattle.mime_lookup.specs.Content.{Advances, GivesUp, Health, OfReader, Retries, Tally, broken, sound}
use Rattle.mime_lookup.specs.declared.order.Order.{Order}
use Rattle.mime_lookup.specs.declared.order.Order.TheVariants.{AllGlobs}
use Rattle.mime_lookup.specs.declared.stopped.Cause.{Cause}
use Rattle.mime_lookup.specs.declared.stopped.Cause.TheVariants as cause
use Rattle.mime_lookup.specs.declared.stopped.Stopped.{Stopped}
use Rattle.mime_store.specs.declared.fault.StoreFault.{StoreFault}
use Rattle.mime_store.specs.declared.fault.StoreFault.TheVariants as store
use Rattle.mime_text.specs.DirTexts.{IsFaultOfDirs}
use Rattle.mime_text.specs.Merging.{visible_database}
use Rattle.mime_text.specs.declared.dir_texts.DirTexts.{DirTexts}
use Rattle.mime_text.specs.declared.dir_texts.DirsFault.{DirsFault}
use Rattle.mime_text.specs.declared.dir_texts.DirsFault.TheVariants as dirs_fault
use Rattle.mime_text.specs.declared.magic.fault.MagicFault.{MagicFault}
use Rattle.mime_text.specs.declared.magic.fault.MagicFault.TheVariants.{Malformed}
use Rattle.mime_tool.specs.declared.from_texts.AnswerFault.{AnswerFault}
use Rattle.mime_tool.specs.declared.from_texts.AnswerFault.TheVariants as fault
use Rattle.mime_tool.specs.declared.from_texts.OwnedAnswer.{OwnedAnswer}

-- ---- the law of the visible rules

-- over the visible rules of a database the same types are chosen as over all, by an order that asks the kept rules alone
abbrev pub VisibleChoosesAlike : Type 0
VisibleChoosesAlike = (b : PlainDatabase) (name : List ℕ) (content : Option (List ℕ)) (host : Host) (order : Order) (kind : List ℕ)
    → order ≢ AllGlobs → (Chooses (visible_database b) name content host order kind ↔ Chooses b name content host order kind)

-- the globs alone decide over both or over neither
abbrev pub VisibleSufficesAlike : Type 0
VisibleSufficesAlike =
    (b : PlainDatabase) (name : List ℕ) (order : Order) → order ≢ AllGlobs → globs_suffice (visible_database b) name order ≡ globs_suffice b name order

-- as much of a content is read
abbrev pub VisibleReadsAlike : Type 0
VisibleReadsAlike = (b : PlainDatabase) (name : List ℕ) (content : Option (List ℕ)) (order : Order)
    → order ≢ AllGlobs → read_of (visible_database b) name content order ≡ read_of b name content order

-- ---- answers

-- a meter keeps to the bounds of a lookup over a cache of at most that many bytes
pub record KeepsRoom (name size read : ℕ) (meter : Meter) : Type 0 where
  pub nodes : meter.nodes ≤ nodes_max name size
  pub bytes : meter.bytes ≤ bytes_max name size read

-- the answer to a name over a database that fits in a cache, and what it took
pub record IsAnswer (b : PlainDatabase) (name : List ℕ) (content : Option (Option (List ℕ))) (host : Host) (order : Order)
    (answer : OwnedAnswer) : Type 0 where
  pub fits : room b ≤ cache_limit
  pub short : length name ≤ 4096
  pub chosen : IfSome content (λ known. Chooses b name known host order answer.kind.items)
  pub read : IfSome content (λ known. answer.read ≡ read_of b name known order)
  pub keeps : KeepsRoom (length name) (room b) answer.read answer.meter

-- a lookup over a database that fits in a cache stops for a long name alone, or for a read of the content alone
pub record IsStopped (b : PlainDatabase) (name : List ℕ) (stopped : Stopped) : Type 0 where
  pub fits : room b ≤ cache_limit
  pub too_long : 4096 < length name → stopped.cause ≡ cause.NameTooLong
  pub otherwise : length name ≤ 4096 → stopped.cause ≡ cause.Read
  pub keeps : KeepsRoom (length name) (room b) stopped.read stopped.meter

-- why there is no answer over a database: no cache can hold it, or the lookup stopped, or memory ran out
abbrev pub IsFaultOver : PlainDatabase → List ℕ → AnswerFault → Type 0
IsFaultOver b name (fault.Magic i f) = ⊥
IsFaultOver b name (fault.Store f) = (f ≡ store.TooLarge) × (cache_limit < room b)
IsFaultOver b name (fault.Lookup stopped) = IsStopped b name stopped
IsFaultOver b name fault.OutOfMemory = Unit {0}

-- what an answer over a database comes to
abbrev pub ComesOver : PlainDatabase → List ℕ → Option (Option (List ℕ)) → Host → Order → Result OwnedAnswer AnswerFault → Type 0
ComesOver b name content host order (Ok answer) = IsAnswer b name content host order answer
ComesOver b name content host order (Err e) = IsFaultOver b name e

-- where a lookup stopped, it stopped so
abbrev pub IfStopped : AnswerFault → (Stopped → Type 0) → Type 0
IfStopped (fault.Lookup stopped) IsSo = IsSo stopped
IfStopped e IsSo = ⊤

-- a lookup took that many bytes: of a fault before it none, and where memory ran out how many isn't told
abbrev pub TookBytes : (ℕ → Type 0) → Result OwnedAnswer AnswerFault → Type 0
TookBytes Took (Ok answer) = Took answer.read
TookBytes Took (Err (fault.Magic i f)) = Took 0
TookBytes Took (Err (fault.Store f)) = Took 0
TookBytes Took (Err (fault.Lookup stopped)) = Took stopped.read
TookBytes Took (Err fault.OutOfMemory) = (read : ℕ) × Took read

-- what becomes of the content's reader: an answer or a stop takes that many bytes of it, and a stop for a read is its fault
pub record AsksReader {R : Type 0} (remaining : R → Option (List ℕ)) (tally : R → Option Tally) (health : R → Health)
    (before after : Option R) (result : Result OwnedAnswer AnswerFault) : Type 0 where
  pub gives_up : IfErr result (λ e. IfStopped e (λ stopped. stopped.cause ≡ cause.Read →
      OfReader (λ old new. GivesUp (tally old) (tally new) 1000) ⊥ before after))
  pub goes : OnOk result (OfReader (λ old new. Retries (tally old) (tally new) 1000) ⊤ before after)
  pub fails : IfErr result (λ e. IfStopped e (λ stopped. stopped.cause ≡ cause.Read →
      OfReader (λ old _. health old ≢ sound) ⊥ before after))
  pub advances : TookBytes
      (λ read. OfReader (λ old new. Advances (remaining old) (remaining new) read) (read ≡ 0) before after) result

-- a reader whose reads all fail isn't asked where there is an answer, since the globs suffice; and is where a read stops it
abbrev pub AsksOnly : {R : Type 0} → (R → Health) → Bool → Option R → Option R → Result OwnedAnswer AnswerFault → Type 0
AsksOnly health suffice before after (Ok answer) = OfReader (λ old _. health old ≡ broken → suffice ≡ true) ⊤ before after
AsksOnly health suffice before after (Err e) = IfStopped e (λ stopped. stopped.cause ≡ cause.Read → suffice ≡ false)

-- a fault of this magic, unless memory ran out
abbrev pub IsMagicRefusal : {X : Type 0} → ℕ → MagicFault → Result X AnswerFault → Type 0
IsMagicRefusal i f (Ok x) = ⊥
IsMagicRefusal i f (Err e) = (e ≡ fault.Magic i f) ⊎ (e ≡ fault.OutOfMemory)

-- ---- the parts of an answer

-- a fault of reading directories; memory has its own
abbrev pub of_dirs : DirsFault → AnswerFault
of_dirs (dirs_fault.Magic i kind offset) = fault.Magic i (Malformed kind offset)
of_dirs dirs_fault.OutOfMemory = fault.OutOfMemory

-- a fault of reading these directories
abbrev pub IsReadFault : List DirTexts → AnswerFault → Type 0
IsReadFault dirs e = (f : DirsFault) × IsFaultOfDirs dirs f × (e ≡ of_dirs f)

-- no cache can hold a database, unless memory ran out
abbrev pub IsStoreFault : PlainDatabase → AnswerFault → Type 0
IsStoreFault b e = (e ≡ fault.OutOfMemory) ⊎ ((e ≡ fault.Store store.TooLarge) × (cache_limit < room b))

-- a fault of writing a cache; memory has its own
abbrev pub of_store : StoreFault → AnswerFault
of_store store.TooLarge = fault.Store store.TooLarge
of_store store.OutOfMemory = fault.OutOfMemory

-- a stop for this cause
abbrev pub of_cause : Stopped → Cause → AnswerFault
of_cause stopped cause.NameTooLong = fault.Lookup stopped
of_cause stopped (cause.Cache f) = fault.Lookup stopped
of_cause stopped cause.Read = fault.Lookup stopped
of_cause stopped cause.OutOfMemory = fault.OutOfMemory

-- a stop of a lookup; memory has its own
abbrev pub of_stopped : Stopped → AnswerFault
of_stopped stopped = of_cause stopped stopped.cause
