-- How an answer is written.
use Rattle.std.specs.Prelude.{◌+◌, ◌/◌, ◌%◌, ◌==◌, ◌||◌, ℕ, Bool, List, [], ◌∷◌, ◌++◌, codes, if◌then◌else◌, nat_lt}
use Rattle.std.specs.List.{flat_map}
use Rattle.mime_request.specs.declared.request.Output.{Output}

-- whether the byte is escaped: a control character (below 32, or 127) or a backslash (92)
abbrev pub is_escaped : ℕ → Bool
is_escaped b = nat_lt b 32 || (b == 127 || b == 92)

-- a backslash and the byte in three octal digits
abbrev pub octal : ℕ → List ℕ
octal b = 92 ∷ (48 + b / 64) ∷ (48 + (b / 8) % 8) ∷ (48 + b % 8) ∷ []

-- a byte as `--escape` writes it
abbrev pub escaped_byte : ℕ → List ℕ
escaped_byte b = if is_escaped b then octal b else b ∷ []

-- a text as `--escape` writes it
abbrev pub escaped : List ℕ → List ℕ
escaped text = flat_map escaped_byte text

-- a text as it is to be written
abbrev pub written : Output → List ℕ → List ℕ
written output text = if output.escape then escaped text else text

-- what stands between a FILE and its TYPE
abbrev pub separator : Output → List ℕ
separator output = if output.null then 0 ∷ [] else codes ": "

-- what ends an answer
abbrev pub answer_end : Output → List ℕ
answer_end output = if output.null then 0 ∷ [] else codes "\n"

-- what stands before the TYPE of the FILE that is written so
abbrev pub before_type : Output → List ℕ → List ℕ
before_type output name = if output.brief then [] else name ++ separator output

-- an answer, where the FILE and the TYPE are written so, and what else is told of it
abbrev pub answer_of : Output → List ℕ → List ℕ → List ℕ → List ℕ
answer_of output name kind tail = before_type output name ++ (kind ++ (tail ++ answer_end output))

-- the answer of a file: its type, and what else is told of it
abbrev pub type_line : Output → List ℕ → List ℕ → List ℕ → List ℕ
type_line output file kind tail = answer_of output (written output file) (written output kind) tail
