-- The names that a list gives, and the runs over them.
use Rattle.std.specs.Prelude.{◌≡◌, ◌==◌, ◌+◌, ◌++◌, ℕ, Bool, true, false, List, [], ◌∷◌, codes, decimal, if◌then◌else◌}
use Rattle.std.specs.List.{onto_first}
use Rattle.mime_tool.specs.Files.{Stored, bytes, unknown}
use Rattle.mime_tool.specs.Run.{IsFollowed, Run, cannot_read, refusal, silent, stopped, stops, unanswered}

-- the names in the bytes of a list: those up to each zero byte, and that after the last zero byte, if any
abbrev pub listed : List ℕ → List (List ℕ)
listed [] = []
listed (b ∷ rest) = if b == 0 then [] ∷ listed rest else onto_first b (listed rest)

-- the names that a list gives, where that is known: none where it can't be read
abbrev pub names_given : Stored → List (List ℕ)
names_given (bytes bs) = listed bs
names_given _ = []

-- a list can't be read to its end
abbrev pub IsUnlisted : Stored → Type 0
IsUnlisted (bytes bs) = ⊥
IsUnlisted _ = Unit {0}

-- the message on the name of this number, which is empty
abbrev pub empty_name : List ℕ → ℕ → List ℕ
empty_name list number = refusal list (codes "name " ++ (decimal number ++ codes " is empty"))

-- the run over the name of this number: it is looked up, and IsOne says what that is; an empty one is not
abbrev pub IsNumbered : (List ℕ → Run → Type 0) → List ℕ → ℕ → List ℕ → Run → Type 0
IsNumbered IsOne list number [] run = run ≡ unanswered (empty_name list number)
IsNumbered IsOne list number (b ∷ rest) run = IsOne (b ∷ rest) run

-- after the last name there is nothing; or the list can't be read any further
abbrev pub IsLast : List ℕ → Bool → Run → Type 0
IsLast list true run = run ≡ silent
IsLast list false run = run ≡ stopped (cannot_read list) silent

-- the runs over names, of which the first has this number, up to the first that stops; then whether the list ends there
abbrev pub AreNumbered : (List ℕ → Run → Type 0) → List ℕ → Bool → ℕ → List (List ℕ) → Run → Type 0
AreNumbered IsOne list ends number [] run = IsLast list ends run
AreNumbered IsOne list ends number (name ∷ names) run = (first : Run) × IsNumbered IsOne list number name first
    × IsFollowed (stops first) first (AreNumbered IsOne list ends (number + 1) names) run

-- the same of a list of this content, from the name of this number on; where the content isn't known, of any names
abbrev pub AreListed : (List ℕ → Run → Type 0) → List ℕ → Stored → ℕ → List (List ℕ) → Run → Type 0
AreListed IsOne list (bytes bs) number names run = AreNumbered IsOne list true number names run
AreListed IsOne list unknown number names run = (ends : Bool) × (given : List (List ℕ)) × AreNumbered IsOne list ends number given run
AreListed IsOne list _ number names run = AreNumbered IsOne list false number names run
