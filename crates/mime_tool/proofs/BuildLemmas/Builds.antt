-- From a database that was loaded, and what is stored of it, to the run of `build`.
use Rattle.std.proofs.Common.{◌≡◌, ◌∙◌, ℕ, Bool, false, List, [], inl, inr, Option, Some, Ok, Err, Result, subst, sym}
use Rattle.std.proofs.lemmas.Bool.{false≢true}
use Rattle.mime_base.specs.Database.{PlainDatabase, plain_database}
use Rattle.mime_base.specs.declared.database.Database.{Database}
use Rattle.mime_request.specs.Request.{PlainDirectories}
use Rattle.mime_tool.specs.Build.{BuildsOver, BuildsWhere, IsBuildOver, IsReplaced, LeavesOver, LeavesWhere, temp_of, writing_of, written_of}
use Rattle.mime_tool.specs.Desk.{EndsOverFiles, Setting, State, Works}
use Rattle.mime_tool.specs.Directories.{IsCommand, IsDatabaseOf}
use Rattle.mime_tool.specs.Environment.{PlainEnvironment}
use Rattle.mime_tool.specs.Files.{Stored, Untouched, Writing}
use Rattle.mime_tool.specs.Finish.{Sinks}
use Rattle.mime_tool.specs.Loading.{Loads}
use Rattle.mime_tool.specs.declared.stop.Stop.{Stop}
use Rattle.mime_tool.specs.declared.stop.Stop.TheVariants as stop
use Rattle.mime_tool.proofs.BuildLemmas.BuildOvers.{can_be_over, untouched_same}
use Rattle.mime_tool.proofs.RunLemmas.Commands.{command_over, command_unloaded}

-- a run that stops leaves the file as it was
stops_untouched : (e : Option PlainEnvironment) (dirs : PlainDirectories) (drop_twins : Bool) (file : List ℕ)
    (writes : List ℕ → List ℕ → Writing) (old new : List ℕ → Stored) (a b : Sinks)
    (s : Stop) → Untouched (temp_of file) old new
    → EndsOverFiles (IsCommand old (Some file) e dirs (λ d _. IsBuildOver file (writing_of writes file) old new (written_of drop_twins d))) [] a b (Err s)
    → EndsOverFiles (IsReplaced e dirs drop_twins file writes old new) [] a b (Err s)
stops_untouched e dirs drop_twins file writes old new a b stop.OutOfMemory untouched (inl p) = inl p
stops_untouched e dirs drop_twins file writes old new a b stop.OutOfMemory untouched (inr p) = inr (
  p.0,
  record { front = p.1.front; rest = p.1.rest; split = p.1.split; is_run = (p.1.is_run, λ _. untouched) },
  p.2,
)
stops_untouched e dirs drop_twins file writes old new a b stop.CannotWrite untouched p = p
stops_untouched e dirs drop_twins file writes old new a b (stop.Refused m) untouched p = (p.0, (p.1, λ _. untouched), p.2)

-- the database isn't loaded
pub builds_unloaded : (e : Option PlainEnvironment) (t : Bool) (dirs : PlainDirectories) (drop_twins : Bool) (file : List ℕ) (a b : State) (s : Stop)
    → Works (Loads plain_database (IsDatabaseOf a.stored (Some file) e dirs)) a b (Err s) → BuildsWhere false e t dirs drop_twins file a b (Err s)
builds_unloaded e t dirs drop_twins file a b s p =
    let untouched : Untouched (temp_of file) a.stored b.stored =
    subst (λ (stored : List ℕ → Stored). Untouched (temp_of file) a.stored stored) (sym p.same_files)
    (untouched_same (temp_of file) a.stored) in
    record {
      same_setting = p.same_setting;
      sinks = stops_untouched e dirs drop_twins file a.setting.writes a.stored b.stored a.sinks b.sinks s untouched
          (command_unloaded Database plain_database a.stored (Some file) e dirs
          (λ d _. IsBuildOver file (writing_of a.setting.writes file) a.stored b.stored (written_of drop_twins d)) [] a.sinks b.sinks s
          (λ d. can_be_over file (writing_of a.setting.writes file) a.stored b.stored (written_of drop_twins d) untouched) p.sinks);
      leaves = inl untouched;
    }

-- it is, and a run over it comes to its end
over_loaded : (e : Option PlainEnvironment) (dirs : PlainDirectories) (drop_twins : Bool) (file : List ℕ)
    (writes : List ℕ → List ℕ → Writing) (old new : List ℕ → Stored) (a c : Sinks)
    (database : PlainDatabase) (r : Result ℕ Stop) → LeavesOver file old new (written_of drop_twins database) r
    → EndsOverFiles (IsCommand old (Some file) e dirs (λ d _. IsBuildOver file (writing_of writes file) old new (written_of drop_twins d))) [] a c r
    → EndsOverFiles (IsReplaced e dirs drop_twins file writes old new) [] a c r
over_loaded e dirs drop_twins file writes old new a c database (Ok status) leaves p =
    (p.0, (p.1, λ is. absurd (false≢true (sym p.2 ∙ is))), p.2, p.3, p.4)
over_loaded e dirs drop_twins file writes old new a c database (Err s) leaves p =
    stops_untouched e dirs drop_twins file writes old new a c s leaves p

-- what a build leaves of a database that was loaded is what it leaves of these directories
leaves_loaded : (e : Option PlainEnvironment) (dirs : PlainDirectories) (drop_twins : Bool) (file : List ℕ)
    (old new : List ℕ → Stored) (database : PlainDatabase) (messages : List ℕ)
    (r : Result ℕ Stop) → IsDatabaseOf old (Some file) e dirs (Some database) messages → LeavesOver file old new (written_of drop_twins database) r
    → LeavesWhere false e dirs drop_twins file old new
leaves_loaded e dirs drop_twins file old new database messages (Ok status) is leaves = inr (database, messages, is, leaves)
leaves_loaded e dirs drop_twins file old new database messages (Err s) is leaves = inl leaves

-- a run over a database depends on what is stored and on the setting
over_same : (database : PlainDatabase) (file : List ℕ) (a b c : State) (r : Result ℕ Stop) → b.stored ≡ a.stored → b.setting ≡ a.setting
    → BuildsOver database file b c r → BuildsOver database file (record { stored = a.stored; setting = a.setting; sinks = b.sinks }) c r
over_same database file a b c r stored setting q =
    subst (λ (t : Setting). BuildsOver database file (record { stored = a.stored; setting = t; sinks = b.sinks }) c r) setting
    (subst (λ (t : List ℕ → Stored). BuildsOver database file (record { stored = t; setting = b.setting; sinks = b.sinks }) c r) stored q)

-- loading a database and building of it is a build of these directories
pub builds_loaded : (e : Option PlainEnvironment) (t : Bool) (dirs : PlainDirectories) (drop_twins : Bool) (file : List ℕ) (a b c : State)
    (database : Database) (r : Result ℕ Stop) → Works (Loads plain_database (IsDatabaseOf a.stored (Some file) e dirs)) a b (Ok database)
    → BuildsOver (written_of drop_twins (plain_database database)) file b c r → BuildsWhere false e t dirs drop_twins file a c r
builds_loaded e t dirs drop_twins file a b c database r p q =
    let over = over_same (written_of drop_twins (plain_database database)) file a b c r p.same_files p.same_setting q in
    record {
      same_setting = over.same_setting;
      sinks = over_loaded e dirs drop_twins file a.setting.writes a.stored c.stored a.sinks c.sinks (plain_database database) r over.leaves
          (command_over Database plain_database a.stored (Some file) e dirs
          (λ d _. IsBuildOver file (writing_of a.setting.writes file) a.stored c.stored (written_of drop_twins d)) [] database
          a.sinks b.sinks c.sinks r over.can_be p.sinks over.sinks);
      leaves = leaves_loaded e dirs drop_twins file a.stored c.stored (plain_database database) p.sinks.0 r p.sinks.1 over.leaves;
    }
