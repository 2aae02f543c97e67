-- The user's data directories, as the environment names them.
use Rattle.std.specs.Prelude.{◌==◌, ℕ, Bool, false, List, [], ◌∷◌, ◌++◌, Option, Some, None, codes, filter, length, option_map, slice_get}
use Rattle.std.specs.Prelude.{option_and_then, if◌then◌else◌}
use Rattle.std.specs.List.{slice_split}
use Rattle.std.specs.Option.{option_map_or}
use Rattle.mime_tool.specs.declared.environment.Environment.{Environment}

-- the variables that name directories, each where it is set
pub record PlainEnvironment : Type 0 where
  pub data_home : Option (List ℕ)
  pub home : Option (List ℕ)
  pub data_dirs : Option (List ℕ)

-- a text that isn't empty
abbrev pub unless_empty : List ℕ → Option (List ℕ)
unless_empty text = if length text == 0 then None else Some text

-- a variable that is set, and not empty
abbrev pub set : Option (List ℕ) → Option (List ℕ)
set variable = option_and_then unless_empty variable

-- what lies below the home directory, if there is one
abbrev pub below_home : Option (List ℕ) → List ℕ
below_home None = []
below_home (Some home) = home ++ codes "/.local/share"

-- the directory of the user's own data, or else the one below the home directory
abbrev pub own_or : Option (List ℕ) → List ℕ → List ℕ
own_or None other = other
own_or (Some path) other = path

-- the directory of the user's own data, an empty path where none is named
abbrev pub own_directory : PlainEnvironment → List ℕ
own_directory environment = own_or (set environment.data_home) (below_home (set environment.home))

-- the directories of data that are not the user's own, with colons between them
abbrev pub data_dirs_of : PlainEnvironment → List ℕ
data_dirs_of environment = own_or (set environment.data_dirs) (codes "/usr/local/share:/usr/share")

-- whether the path begins with a slash (47)
abbrev pub is_absolute : List ℕ → Bool
is_absolute path = option_map_or (λ b. b == 47) (slice_get path 0) false

-- the absolute parts of a list with colons (58)
abbrev pub absolute_parts : List ℕ → List (List ℕ)
absolute_parts dirs = filter is_absolute (slice_split (λ b. b == 58) dirs)

-- the user's own directory and then the others, each where its path is absolute
abbrev pub all_directories : List ℕ → List ℕ → List (List ℕ)
all_directories own dirs = if is_absolute own then own ∷ absolute_parts dirs else absolute_parts dirs

-- the user's data directories, the most preferred first
abbrev pub user_directories : PlainEnvironment → List (List ℕ)
user_directories environment = all_directories (own_directory environment) (data_dirs_of environment)

-- the plain value of the variables
abbrev pub plain_environment : Environment → PlainEnvironment
plain_environment environment = record {
  data_home = option_map (λ s. s.now) environment.data_home;
  home = option_map (λ s. s.now) environment.home;
  data_dirs = option_map (λ s. s.now) environment.data_dirs;
}

-- the same, where all of them are text
abbrev pub known_environment : Option Environment → Option PlainEnvironment
known_environment environment = option_map plain_environment environment
