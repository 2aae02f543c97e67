-- From directories to the database of them.
use Rattle.std.proofs.Common.{◌≡◌, ℕ, List, [], Option, Some, Result, Ok, Err, Vec, ap, refl}
use Rattle.std.specs.declared.alloc.Global.{Global}
use Rattle.mime_base.specs.Database.{PlainDatabase, plain_database}
use Rattle.mime_base.specs.declared.database.Database.{Database}
use Rattle.mime_text.specs.Merging.{PlainDir, merged, plain_dirs, visible_database}
use Rattle.mime_text.specs.declared.merging.DirFiles.{DirFiles}
use Rattle.mime_tool.specs.Desk.{State, Works}
use Rattle.mime_tool.specs.Directories.{AreDirectories, IsDatabase, IsMerged, IsNoticed}
use Rattle.mime_tool.specs.Files.{Stored}
use Rattle.mime_tool.specs.Loading.{Gives, Loads}
use Rattle.mime_tool.specs.declared.stop.Stop.{Stop}
use Rattle.mime_tool.specs.declared.stop.Stop.TheVariants as stop
use Rattle.mime_tool.proofs.DirectoryLemmas.DirectoryLists.{can_be_directories}
use Rattle.mime_tool.proofs.DirectoryLemmas.DirectoryLoops.{ReadsDirectories, plain_of}
use Rattle.mime_tool.proofs.RunLemmas.Ends.{writes_nothing}
use Rattle.mime_tool.proofs.RunLemmas.Loads.{CanBe, can_give, can_then, works_nothing, works_stop, works_then}
use Rattle.mime_tool.proofs.DirectoryLemmas.Notices.{can_be_noticed}

-- they are not read
pub database_unread : (dirs : List (List ℕ)) (a b : State) (s : Stop) → ReadsDirectories dirs a b (Err s)
    → Works (Loads plain_database (IsMerged a.stored dirs)) a b (Err s)
unfolding IsMerged
database_unread dirs a b s p =
    works_stop (Vec DirFiles Global) (List PlainDir) Database PlainDatabase plain_of plain_database (AreDirectories a.stored dirs)
    (λ ds. Gives (visible_database (merged ds))) a b s p (λ ds. can_give PlainDatabase (visible_database (merged ds)))

-- they are merged
pub database_merged : (dirs : List (List ℕ)) (a b : State) (files : Vec DirFiles Global) (database : Database)
    → plain_database database ≡ visible_database (merged (plain_dirs files.items)) → ReadsDirectories dirs a b (Ok files)
    → Works (Loads plain_database (IsMerged a.stored dirs)) a b (Ok database)
unfolding IsMerged
database_merged dirs a b files database is p =
    works_then (Vec DirFiles Global) (List PlainDir) Database PlainDatabase plain_of plain_database (AreDirectories a.stored dirs)
    (λ _ ds. Gives (visible_database (merged ds))) a b b files (Ok database) p
    (record { same_files = refl; same_setting = refl; sinks = ([], (ap Some is, refl), writes_nothing b.sinks) })

-- there is no memory to merge them
pub database_unmerged : (dirs : List (List ℕ)) (a b : State) (files : Vec DirFiles Global) → ReadsDirectories dirs a b (Ok files)
    → Works (Loads plain_database (IsMerged a.stored dirs)) a b (Err stop.OutOfMemory)
unfolding IsMerged
database_unmerged dirs a b files p =
    works_then (Vec DirFiles Global) (List PlainDir) Database PlainDatabase plain_of plain_database (AreDirectories a.stored dirs)
    (λ _ ds. Gives (visible_database (merged ds))) a b b files (Err stop.OutOfMemory) p
    (works_nothing Database PlainDatabase plain_database (Gives (visible_database (merged (plain_of files)))) b
    (can_give PlainDatabase (visible_database (merged (plain_of files)))))

-- directories can be merged
pub can_be_merged : (stored : List ℕ → Stored) (dirs : List (List ℕ)) → CanBe (IsMerged stored dirs)
unfolding IsMerged
can_be_merged stored dirs =
    can_then (List PlainDir) PlainDatabase (AreDirectories stored dirs) (λ ds. Gives (visible_database (merged ds))) (can_be_directories stored dirs)
    (λ ds. can_give PlainDatabase (visible_database (merged ds)))

-- some database is that of directories
pub can_be_database : (stored : List ℕ → Stored) (kept : Option (List ℕ)) (dirs : List (List ℕ)) → CanBe (IsDatabase stored kept dirs)
unfolding IsDatabase
can_be_database stored kept dirs =
    can_then (Unit {0}) PlainDatabase (IsNoticed stored kept dirs) (λ _. IsMerged stored dirs) (can_be_noticed stored kept dirs)
    (λ _. can_be_merged stored dirs)

-- it is loaded, or not, after what is noticed
pub database_noticed : (kept : Option (List ℕ)) (dirs : List (List ℕ)) (a b c : State) (u : Unit {0}) (r : Result Database Stop)
    → Works (Loads (λ done. done) (IsNoticed a.stored kept dirs)) a b (Ok u)
    → Works (Loads plain_database (IsMerged b.stored dirs)) b c r → Works (Loads plain_database (IsDatabase a.stored kept dirs)) a c r
unfolding IsDatabase
database_noticed kept dirs a b c u r p q =
    works_then (Unit {0}) (Unit {0}) Database PlainDatabase (λ done. done) plain_database (IsNoticed a.stored kept dirs)
    (λ stored _. IsMerged stored dirs) a b c u r p q

-- what is noticed isn't said
pub database_unnoticed : (kept : Option (List ℕ)) (dirs : List (List ℕ)) (a b : State) (s : Stop)
    → Works (Loads {X = Unit {0}} (λ done. done) (IsNoticed a.stored kept dirs)) a b (Err s)
    → Works (Loads plain_database (IsDatabase a.stored kept dirs)) a b (Err s)
unfolding IsDatabase
database_unnoticed kept dirs a b s p =
    works_stop (Unit {0}) (Unit {0}) Database PlainDatabase (λ done. done) plain_database (IsNoticed a.stored kept dirs)
    (λ _. IsMerged a.stored dirs) a b s p (λ _. can_be_merged a.stored dirs)
