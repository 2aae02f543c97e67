-- From a database that was loaded, and a run over it, to the run of a command.
use Rattle.std.proofs.Common.{ℕ, List, [], ◌++◌, inr, Option, Some, None, Result, Ok, Err, refl, string_bytes}
use Rattle.mime_base.specs.Database.{PlainDatabase, plain_database}
use Rattle.mime_base.specs.declared.database.Database.{Database}
use Rattle.mime_request.specs.Request.{PlainDirectories}
use Rattle.mime_tool.specs.Desk.{EndsOverFiles, State, Works}
use Rattle.mime_tool.specs.Directories.{IsCommand, IsDatabaseOf, IsUserDatabase, not_text}
use Rattle.mime_tool.specs.Environment.{PlainEnvironment}
use Rattle.mime_tool.specs.Files.{Stored}
use Rattle.mime_tool.specs.Finish.{IsCut, Sinks, WritesFront}
use Rattle.mime_tool.specs.Loading.{Loads}
use Rattle.mime_tool.specs.Run.{Run, joined, said, silent, stopped}
use Rattle.mime_tool.specs.Stop.{IsRefusal}
use Rattle.mime_tool.specs.declared.stop.Stop.{Stop}
use Rattle.mime_tool.specs.declared.stop.Stop.TheVariants as stop
use Rattle.mime_tool.proofs.RunLemmas.Ends.{ends_said, part_none, writes_nothing}
use Rattle.mime_tool.proofs.RunLemmas.Loads.{works_nothing}
use Rattle.mime_tool.proofs.DeskLemmas.Sinks.{front_longer}

-- the user's directories aren't known
pub users_unknown : (a : State) (kept : Option (List ℕ)) (s : Stop) → IsRefusal not_text s
    → Works (Loads plain_database (IsUserDatabase a.stored kept None)) a a (Err s)
users_unknown a kept stop.OutOfMemory p = works_nothing Database PlainDatabase plain_database (IsUserDatabase a.stored kept None) a
    (None, not_text, (refl, refl))
users_unknown a kept stop.CannotWrite p = absurd p
users_unknown a kept (stop.Refused m) p =
    record { same_files = refl; same_setting = refl; sinks = ([], (refl, p), writes_nothing a.sinks) }

-- ---- a command

-- what a run over files is, by a database
abbrev pub Over : Type 1
Over = PlainDatabase → List (List ℕ) → Run → Type 0

-- memory ran out while the database was loaded
unloaded_cut : (stored : List ℕ → Stored) (kept : Option (List ℕ)) (e : Option PlainEnvironment) (dirs : PlainDirectories) (IsOver : Over) (files : List (List ℕ)) (a b : Sinks)
    → ((database : PlainDatabase) → (run : Run) × IsOver database [] run) → (found : Option PlainDatabase) (messages : List ℕ)
    → IsDatabaseOf stored kept e dirs found messages → WritesFront a b (said messages) → IsCut (IsCommand stored kept e dirs IsOver) files a b
unloaded_cut stored kept e dirs IsOver files a b none None messages is w =
    let run = stopped messages silent in
    inr (run, part_none (IsCommand stored kept e dirs IsOver) files run (None, messages, is, refl), w)
unloaded_cut stored kept e dirs IsOver files a b none (Some database) messages is w =
    let rest = none database in
    let run = joined (said messages) rest.0 in
    inr (
      run,
      part_none (IsCommand stored kept e dirs IsOver) files run (Some database, messages, is, (rest.0, rest.1, refl)),
      (front_longer a.out b.out [] rest.0.out w.0, front_longer a.err b.err messages rest.0.err w.1),
    )

-- the database isn't loaded
pub command_unloaded : (X : Type 0) (plain : X → PlainDatabase) (stored : List ℕ → Stored)
    (kept : Option (List ℕ)) (e : Option PlainEnvironment) (dirs : PlainDirectories) (IsOver : Over)
    (files : List (List ℕ)) (a b : Sinks) (s : Stop) → ((database : PlainDatabase) → (run : Run) × IsOver database [] run)
    → Loads plain (IsDatabaseOf stored kept e dirs) a b (Err s) → EndsOverFiles (IsCommand stored kept e dirs IsOver) files a b (Err s)
command_unloaded X plain stored kept e dirs IsOver files a b stop.OutOfMemory none p =
    unloaded_cut stored kept e dirs IsOver files a b none p.0 p.1 p.2 p.3
command_unloaded X plain stored kept e dirs IsOver files a b stop.CannotWrite none p = p
command_unloaded X plain stored kept e dirs IsOver files a b (stop.Refused m) none p =
    (said p.0, (None, p.0 ++ string_bytes m, p.1, refl), p.2)

-- the database is loaded, and the files answered
pub command_over : (X : Type 0) (plain : X → PlainDatabase) (stored : List ℕ → Stored) (kept : Option (List ℕ)) (e : Option PlainEnvironment) (dirs : PlainDirectories) (IsOver : Over)
    (files : List (List ℕ)) (database : X) (a b c : Sinks) (r : Result ℕ Stop)
    → (run : Run) × IsOver (plain database) [] run
    → Loads plain (IsDatabaseOf stored kept e dirs) a b (Ok database) → EndsOverFiles (IsOver (plain database)) files b c r
    → EndsOverFiles (IsCommand stored kept e dirs IsOver) files a c r
command_over X plain stored kept e dirs IsOver files database a b c r none p q =
    ends_said (IsOver (plain database)) (IsCommand stored kept e dirs IsOver) files p.0 a b c r
    (λ fs run is. (Some (plain database), p.0, p.1, (run, is, refl))) none p.2 q
