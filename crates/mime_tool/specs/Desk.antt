-- What becomes of a desk: before a part of the program, after it, and what that part gives.
use Rattle.std.specs.Prelude.{◌≡◌, ◌≢◌, ◌++◌, ℕ, false, List, Option, Some, None, Result, Ok, Err, Vec, string_bytes}
use Rattle.std.specs.declared.alloc.Global.{Global}
use Rattle.mime_lookup.specs.Content.{Health}
use Rattle.mime_tool.specs.Files.{IsFolder, IsReaderOf, IsShut, Replaced, Stored, Untouched, Writing, fails, succeeds}
use Rattle.mime_tool.specs.Finish.{IsCut, Sinks, Writes, WritesFront}
use Rattle.mime_tool.specs.Listed.{IsUnlisted}
use Rattle.mime_tool.specs.Run.{Run, cannot_read, cannot_write, stopped, stops}
use Rattle.mime_tool.specs.Stop.{message}
use Rattle.mime_tool.specs.declared.desk.Opened.{Opened}
use Rattle.mime_tool.specs.declared.desk.Opened.TheVariants as opened
use Rattle.mime_tool.specs.declared.stop.Stop.{Stop}
use Rattle.mime_tool.specs.declared.stop.Stop.TheVariants as stop

-- what no part of the program changes: a desk's references, what is known of replacing files, and what standard error can hold
pub record Setting : Type 0 where
  pub places : ℕ × ℕ × ℕ
  pub writes : List ℕ → List ℕ → Writing
  pub capacity : Option ℕ

-- what is known of a desk: what is stored, its setting, and what the sinks hold
pub record State : Type 0 where
  pub stored : List ℕ → Stored
  pub setting : Setting
  pub sinks : Sinks

-- the files and the setting stay, and the sinks go from one state to the other so that P holds
pub record Works {R : Type 0} (P : Sinks → Sinks → R → Type 0) (before after : State) (result : R) : Type 0 where
  pub same_files : after.stored ≡ before.stored
  pub same_setting : after.setting ≡ before.setting
  pub sinks : P before.sinks after.sinks result

-- what the run writes is written; or a front of it, where memory runs out; or standard output isn't
-- known
abbrev pub Does : {X : Type 0} → Run → Sinks → Sinks → Result X Stop → Type 0
Does run old new (Ok _) = Writes old new run
Does run old new (Err stop.OutOfMemory) = WritesFront old new run
Does run old new (Err stop.CannotWrite) = old.out ≡ None
Does run old new (Err (stop.Refused _)) = ⊥

-- a run over the files is done, but for the message of a stop, which is still to be said
abbrev pub EndsOverFiles : (List (List ℕ) → Run → Type 0) → List (List ℕ) → Sinks → Sinks → Result ℕ Stop → Type 0
EndsOverFiles IsRun files old new (Ok status) =
    (run : Run) × IsRun files run × (stops run ≡ false) × (status ≡ run.status) × Writes old new run
EndsOverFiles IsRun files old new (Err stop.OutOfMemory) = IsCut IsRun files old new
EndsOverFiles IsRun files old new (Err stop.CannotWrite) = old.out ≡ None
EndsOverFiles IsRun files old new (Err s) =
    (run : Run) × IsRun files (stopped (message s) run) × Writes old new run

-- a file is read whole, and IsFound says what is found; or it is refused, and that names its path; or memory ran out
abbrev pub ReadsWhole : (Option (List ℕ) → Type 0) → List ℕ → Sinks → Sinks → Result (Vec ℕ Global) Stop → Type 0
ReadsWhole IsFound path old new (Ok v) = (new ≡ old) × IsFound (Some v.items)
ReadsWhole IsFound path old new (Err (stop.Refused text)) = (new ≡ old) × IsFound None × (string_bytes text ≡ cannot_read path)
ReadsWhole IsFound path old new (Err stop.CannotWrite) = ⊥
ReadsWhole IsFound path old new (Err stop.OutOfMemory) = new ≡ old

-- a file is replaced; or it can't be, and that names its path; or memory ran out
abbrev pub ReplacesOrStops : List ℕ → List ℕ → List ℕ → Writing → (List ℕ → Stored) → (List ℕ → Stored)
    → Result (Unit {0}) Stop → Type 0
ReplacesOrStops temp path bs writing old new (Ok _) = Replaced temp path bs old new × (writing ≢ fails)
ReplacesOrStops temp path bs writing old new (Err (stop.Refused text)) =
    Untouched temp old new × (writing ≢ succeeds) × (string_bytes text ≡ cannot_write path)
ReplacesOrStops temp path bs writing old new (Err stop.CannotWrite) = ⊥
ReplacesOrStops temp path bs writing old new (Err stop.OutOfMemory) = Untouched temp old new

-- the setting and the sinks stay, and a file is replaced or not, by way of its path with an ending
pub record ReplacesFile (path ending bs : List ℕ) (before after : State) (result : Result (Unit {0}) Stop) : Type 0 where
  pub same_setting : after.setting ≡ before.setting
  pub same_sinks : after.sinks ≡ before.sinks
  pub files : ReplacesOrStops (path ++ ending) path bs (before.setting.writes path ending) before.stored after.stored result

-- a list is opened; or it is refused, and that names its path; or memory ran out
abbrev pub OpensList : {R : Type 0} → (R → Option (List ℕ)) → (R → Health) → Stored → List ℕ → Sinks → Sinks → Result R Stop → Type 0
OpensList remaining health list path old new (Ok reader) = (new ≡ old) × IsReaderOf remaining health list reader
OpensList remaining health list path old new (Err (stop.Refused text)) =
    (new ≡ old) × IsUnlisted list × (string_bytes text ≡ cannot_read path)
OpensList remaining health list path old new (Err stop.CannotWrite) = ⊥
OpensList remaining health list path old new (Err stop.OutOfMemory) = new ≡ old

-- a file is opened; or it is a folder, it can't be opened, or memory ran out
abbrev pub OpensFile : {R : Type 0} → (R → Option (List ℕ)) → (R → Health) → Stored → Sinks → Sinks → Result (Opened R) Stop → Type 0
OpensFile remaining health stored old new (Ok (opened.File reader)) = (new ≡ old) × IsReaderOf remaining health stored reader
OpensFile remaining health stored old new (Ok opened.Folder) = (new ≡ old) × IsFolder stored
OpensFile remaining health stored old new (Ok opened.Shut) = (new ≡ old) × IsShut stored
OpensFile remaining health stored old new (Err stop.OutOfMemory) = new ≡ old
OpensFile remaining health stored old new (Err _) = ⊥
