-- What `isa` prints.
use Rattle.std.specs.Prelude.{◌≡◌, ◌↔◌, ℕ, Bool, true, false, IsTrue, List, [], ◌∷◌, codes, ⊤, Option}
use Rattle.mime_base.specs.Database.{PlainDatabase, pairs_of}
use Rattle.mime_base.specs.Database.Subclass.{IsA, resolved}
use Rattle.mime_base.specs.Format.Spells.{Spells}
use Rattle.mime_lookup.specs.StepFaults.{IsSubclassFault}
use Rattle.mime_view.specs.declared.fault.CacheFault.{CacheFault}
use Rattle.mime_request.specs.Request.{PlainSource}
use Rattle.mime_tool.specs.Cache.{IsAnsweredOr, IsCacheRefusal}
use Rattle.mime_tool.specs.Environment.{PlainEnvironment}
use Rattle.mime_tool.specs.Files.{Stored}
use Rattle.mime_tool.specs.Run.{Run, printed}
use Rattle.mime_tool.specs.Sources.{IsQuestion}
use Rattle.mime_tool.specs.TypeNames.{IsRunOfTypes}

-- `yes`, or `no` with status 1
abbrev pub answer_run : Bool → Run
answer_run true = printed (codes "yes\n")
answer_run false = record { status = 1; out = codes "no\n"; err = [] }

-- yes is said just where the type is the base by this database, both after an alias step
abbrev pub IsSaidBy : PlainDatabase → List ℕ → List ℕ → Bool → Type 0
IsSaidBy b kind base says = IsTrue says ↔ IsA (pairs_of b) (resolved b.aliases kind) (resolved b.aliases base)

-- the same by each database that the cache spells
abbrev pub IsSaid : List ℕ → List ℕ → List ℕ → Bool → Type 0
IsSaid cache kind base says = (b : PlainDatabase) → Spells cache b → IsSaidBy b kind base says

-- `isa` refuses the cache for this fault
abbrev pub RefusesPairs : List ℕ → CacheFault → Type 0
RefusesPairs cache = IsCacheRefusal cache (IsSubclassFault cache) (λ _. ⊤)

-- the answer is printed
abbrev pub IsAnswerOf : (Bool → Type 0) → Run → Type 0
IsAnswerOf IsSaidSo run = (says : Bool) × IsSaidSo says × (run ≡ answer_run says)

-- the run of `isa` over a cache that lies at this path
abbrev pub IsAnswerOver : List ℕ → List ℕ → List ℕ → List ℕ → List (List ℕ) → Run → Type 0
IsAnswerOver path kind base cache files run = IsAnsweredOr path (RefusesPairs cache) (IsAnswerOf (IsSaid cache kind base)) run

-- the run of `isa` over the database of directories
abbrev pub IsAnswerBy : List ℕ → List ℕ → PlainDatabase → List (List ℕ) → Run → Type 0
IsAnswerBy kind base b files run = IsAnswerOf (IsSaidBy b kind base) run

-- the run of `isa`: the words are looked at before anything is read
abbrev pub IsSubclassRun : (List ℕ → Stored) → Option PlainEnvironment → PlainSource → List ℕ → List ℕ → List (List ℕ) → Run → Type 0
IsSubclassRun stored environment source kind base files =
    IsRunOfTypes (kind ∷ base ∷ []) (IsQuestion stored environment source (λ path. IsAnswerOver path kind base) (IsAnswerBy kind base) files)
