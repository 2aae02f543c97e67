-- How a run comes to its end.
use Rattle.std.specs.Prelude.{◌≡◌, ◌≢◌, ◌⊎◌, ℕ, List, ◌++◌, Option}
use Rattle.mime_tool.specs.Run.{Run, out_of_memory, silent}
use Rattle.mime_tool.specs.Sink.{Wrote, WroteFront, WroteMessage}

-- both sinks, by the bytes that they hold where those are known
pub record Sinks : Type 0 where
  pub out : Option (List ℕ)
  pub err : Option (List ℕ)

-- all that the run writes is written
abbrev pub Writes : Sinks → Sinks → Run → Type 0
Writes old new run = Wrote old.out new.out run.out × Wrote old.err new.err run.err

-- a front of what the run writes is written, on each sink
abbrev pub WritesFront : Sinks → Sinks → Run → Type 0
WritesFront old new run = WroteFront old.out new.out run.out × WroteFront old.err new.err run.err

-- a run over a front of the files; IsRun says what a run over files is
pub record IsPart (IsRun : List (List ℕ) → Run → Type 0) (files : List (List ℕ)) (run : Run) : Type 0 where
  pub front : List (List ℕ)
  pub rest : List (List ℕ)
  pub split : files ≡ front ++ rest
  pub is_run : IsRun front run

-- memory ran out: nothing was written, or a front of what a run over a front of the files writes
abbrev pub IsCut : (List (List ℕ) → Run → Type 0) → List (List ℕ) → Sinks → Sinks → Type 0
IsCut IsRun files old new =
    Writes old new silent ⊎ ((run : Run) × IsPart IsRun files run × WritesFront old new run)

-- a run over the files, for which memory didn't run out: the status is its status, and its bytes are written
abbrev pub IsDone : (List (List ℕ) → Run → Type 0) → List (List ℕ) → Sinks → Sinks → ℕ → Type 0
IsDone IsRun files old new status =
    (run : Run) × IsRun files run × (status ≡ run.status) × (status ≢ 4) × Writes old new run

-- the run was cut short, and after it stands the message of that, or a front where standard error has no room for it
abbrev pub IsCutAndSaid : (List (List ℕ) → Run → Type 0) → List (List ℕ) → Option ℕ → Sinks → Sinks → Type 0
IsCutAndSaid IsRun files capacity old new =
    (cut : Sinks) × IsCut IsRun files old cut × (new.out ≡ cut.out) × WroteMessage capacity cut.err new.err out_of_memory

-- the run is done; or the status is 4, and it was cut short; capacity is what standard error holds at the most, where it tells
abbrev pub Finishes : (List (List ℕ) → Run → Type 0) → List (List ℕ) → Option ℕ → Sinks → Sinks → ℕ → Type 0
Finishes IsRun files capacity old new status =
    IsDone IsRun files old new status ⊎ ((status ≡ 4) × IsCutAndSaid IsRun files capacity old new)
