-- What is looked up: names, and a content for each.
use Rattle.std.specs.Prelude.{ℕ, List, [], ◌∷◌, codes, if◌then◌else◌}
use Rattle.std.specs.Str.{bytes_eq}
use Rattle.mime_request.specs.Request.{PlainSubjects, of_files, of_input, of_list}
use Rattle.mime_tool.specs.Files.{Stored, as_list}
use Rattle.mime_tool.specs.Listed.{AreListed, names_given}
use Rattle.mime_tool.specs.Run.{IsEach, Run}

-- what a list holds: what is stored at its path, or standard input where that is a hyphen
abbrev pub list_at : List ℕ → (List ℕ → Stored) → Stored → Stored
list_at path stored input = if bytes_eq path (codes "-") then input else as_list (stored path)

-- the names that are looked up: those of the FILEs, that of standard input, or those that a list gives where that is known
abbrev pub names_in : PlainSubjects → (List ℕ → Stored) → Stored → List (List ℕ)
names_in (of_files files) stored input = files
names_in (of_input name) stored input = name ∷ []
names_in (of_list path) stored input = names_given (list_at path stored input)

-- the runs over what is looked up, where this is stored and standard input gives this; IsOne says what the run over one
-- name is, by the content of each
abbrev pub AreSubjectRuns : PlainSubjects → (List ℕ → Stored) → Stored → ((List ℕ → Stored) → List ℕ → Run → Type 0) → List (List ℕ) → Run
    → Type 0
AreSubjectRuns (of_files files) stored input IsOne = IsEach (IsOne stored)
AreSubjectRuns (of_input name) stored input IsOne = IsEach (IsOne (λ _. input))
AreSubjectRuns (of_list path) stored input IsOne = AreListed (IsOne stored) path (list_at path stored input) 1

-- the words that are FILEs
abbrev pub file_words : PlainSubjects → List (List ℕ)
file_words (of_files files) = files
file_words (of_input name) = []
file_words (of_list path) = []
