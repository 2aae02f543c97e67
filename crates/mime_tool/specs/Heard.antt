-- What words lead to, of which some are no text.
use Rattle.std.specs.Prelude.{◌≡◌, ◌≢◌, ℕ, List, [], ◌∷◌, Result}
use Rattle.clap.specs.declared.error.kind.ErrorKind.{ErrorKind}
use Rattle.clap.specs.declared.error.kind.ErrorKind.TheVariants as kind
use Rattle.mime_tool.specs.Desk.{EndsOverFiles, State}
use Rattle.mime_tool.specs.Files.{Stored, Writing}
use Rattle.mime_tool.specs.Process.{PlainProcess}
use Rattle.mime_tool.specs.Program.{IsAnswer, IsShown, LeavesFiles, names_of}
use Rattle.mime_tool.specs.Run.{Run, mistaken}
use Rattle.mime_tool.specs.Words.{Heard, means, no_text, not_text}
use Rattle.mime_tool.specs.declared.words.RawWord.{RawWord}
use Rattle.mime_tool.specs.declared.stop.Stop.{Stop}

-- the run that words ask for, or that names the one that is no text
abbrev pub IsReply : PlainProcess → (List ℕ → List ℕ → Writing) → (List ℕ → Stored) → (List ℕ → Stored) → Heard
    → List (List ℕ) → Run → Type 0
IsReply process writes old new (means m) = IsAnswer process writes old new m
IsReply process writes old new (no_text number) = λ _ run. run ≡ mistaken (not_text number)

-- the names that words have looked up
abbrev pub heard_names : PlainProcess → (List ℕ → Stored) → Heard → List (List ℕ)
heard_names process stored (means m) = names_of process stored m
heard_names process stored (no_text number) = []

-- what words leave stored
abbrev pub LeavesHeard : PlainProcess → Heard → (List ℕ → Stored) → (List ℕ → Stored) → Type 0
LeavesHeard process (means m) old new = LeavesFiles process m old new
LeavesHeard process (no_text number) old new = new ≡ old

-- what is said of words that are refused for an error of this kind: its text, or the first of them that is no text
abbrev pub IsRefusedRun : List RawWord → ErrorKind → Run → Type 0
IsRefusedRun [] k run = IsShown k run
IsRefusedRun (raw ∷ raws) k run = (k ≢ kind.OutOfMemory) × (run ≡ mistaken (not_text raw.number))

-- the setting stays, the run that words ask for is done, up to the message of a stop, and this is left stored
pub record Replies (process : PlainProcess) (h : Heard) (before after : State) (result : Result ℕ Stop) : Type 0 where
  pub same_setting : after.setting ≡ before.setting
  pub sinks : EndsOverFiles (IsReply process before.setting.writes before.stored after.stored h) (heard_names process before.stored h) before.sinks after.sinks result
  pub leaves : LeavesHeard process h before.stored after.stored
