-- What `icon` prints.
use Rattle.std.specs.Prelude.{◌≡◌, ℕ, List, [], ◌∷◌, ◌++◌, codes, ⊤, Option}
use Rattle.mime_base.specs.Database.{PlainDatabase}
use Rattle.mime_base.specs.Format.Spells.{Spells}
use Rattle.mime_lookup.specs.Icons.{PlainIcons, icons_of}
use Rattle.mime_lookup.specs.StepFaults.{IsIconFault}
use Rattle.mime_view.specs.declared.fault.CacheFault.{CacheFault}
use Rattle.mime_request.specs.Request.{PlainSource}
use Rattle.mime_tool.specs.Cache.{IsAnsweredOr, IsCacheRefusal}
use Rattle.mime_tool.specs.Environment.{PlainEnvironment}
use Rattle.mime_tool.specs.Files.{Stored}
use Rattle.mime_tool.specs.Run.{Run, printed}
use Rattle.mime_tool.specs.Sources.{IsQuestion}
use Rattle.mime_tool.specs.TypeNames.{IsRunOfTypes}

-- `icon: NAME` and `generic: NAME`
abbrev pub printed_icons : PlainIcons → List ℕ
printed_icons icons = codes "icon: " ++ (icons.icon ++ (codes "\ngeneric: " ++ (icons.generic ++ codes "\n")))

-- the icons of a type: those of the database that the cache spells, where it spells one
abbrev pub AreIconsOf : List ℕ → List ℕ → PlainIcons → Type 0
AreIconsOf cache kind icons = (b : PlainDatabase) → Spells cache b → icons ≡ icons_of b kind

-- `icon` refuses the cache for this fault
abbrev pub RefusesIcons : List ℕ → CacheFault → Type 0
RefusesIcons cache = IsCacheRefusal cache (IsIconFault cache) (λ _. ⊤)

-- the icons are printed
abbrev pub AreIconLines : List ℕ → List ℕ → Run → Type 0
AreIconLines cache kind run = (icons : PlainIcons) × AreIconsOf cache kind icons × (run ≡ printed (printed_icons icons))

-- the run of `icon` over a cache that lies at this path
abbrev pub IsIconOver : List ℕ → List ℕ → List ℕ → List (List ℕ) → Run → Type 0
IsIconOver path kind cache files run = IsAnsweredOr path (RefusesIcons cache) (AreIconLines cache kind) run

-- the run of `icon` over the database of directories
abbrev pub IsIconBy : List ℕ → PlainDatabase → List (List ℕ) → Run → Type 0
IsIconBy kind b files run = run ≡ printed (printed_icons (icons_of b kind))

-- the run of `icon`: the word is looked at before anything is read
abbrev pub IsIcon : (List ℕ → Stored) → Option PlainEnvironment → PlainSource → List ℕ → List (List ℕ) → Run → Type 0
IsIcon stored environment source kind files =
    IsRunOfTypes (kind ∷ []) (IsQuestion stored environment source (λ path. IsIconOver path kind) (IsIconBy kind) files)
