-- Words that have to be type names.
use Rattle.std.specs.Prelude.{◌≡◌, ℕ, Bool, true, false, List, [], ◌∷◌, ◌++◌, codes}
use Rattle.mime_base.specs.Names.{is_type_name}
use Rattle.mime_tool.specs.Run.{Run, mistaken}

-- the message on a word that is no type name
abbrev pub not_a_type : List ℕ → List ℕ
not_a_type word = codes "mimelook: not a type: " ++ (word ++ codes "\n")

-- the run after a word was looked at: IsRest, or it is no type name
abbrev pub IsAfterWord : Bool → List ℕ → (Run → Type 0) → Run → Type 0
IsAfterWord true word IsRest run = IsRest run
IsAfterWord false word IsRest run = run ≡ mistaken (not_a_type word)

-- the run of a command with these words: of the first that is no type name that is said, else it is IsRun
abbrev pub IsRunOfTypes : List (List ℕ) → (Run → Type 0) → Run → Type 0
IsRunOfTypes [] IsRun run = IsRun run
IsRunOfTypes (word ∷ words) IsRun run = IsAfterWord (is_type_name word) word (IsRunOfTypes words IsRun) run
