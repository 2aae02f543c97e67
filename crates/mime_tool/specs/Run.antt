-- What a run of the program writes, and how runs follow one another.
use Rattle.std.specs.Prelude.{◌≡◌, ℕ, Bool, true, false, List, [], ◌∷◌, ◌++◌, codes, max, nat_le}

-- an exit status, and what is written on standard output and on standard error
pub record Run : Type 0 where
  pub status : ℕ
  pub out : List ℕ
  pub err : List ℕ

-- nothing is written
abbrev pub silent : Run
silent = record { status = 0; out = []; err = [] }

-- this is printed on standard output
abbrev pub printed : List ℕ → Run
printed text = record { status = 0; out = text; err = [] }

-- this is said on standard error, and changes no status
abbrev pub said : List ℕ → Run
said text = record { status = 0; out = []; err = text }

-- a file isn't answered, and this says why
abbrev pub unanswered : List ℕ → Run
unanswered text = record { status = 1; out = []; err = text }

-- the words are mistaken, and this says why
abbrev pub mistaken : List ℕ → Run
mistaken text = record { status = 2; out = []; err = text }

-- a run that stops, and says this of it
abbrev pub stopped : List ℕ → Run → Run
stopped message run = record { status = 3; out = run.out; err = run.err ++ message }

-- nothing comes after it
abbrev pub stops : Run → Bool
stops run = nat_le 3 run.status

-- a run, and then another
abbrev pub joined : Run → Run → Run
joined a b = record { status = max a.status b.status; out = a.out ++ b.out; err = a.err ++ b.err }

-- a run alone where it stops, else it and a rest
abbrev pub IsFollowed : Bool → Run → (Run → Type 0) → Run → Type 0
IsFollowed true first IsRest run = run ≡ first
IsFollowed false first IsRest run = (rest : Run) × IsRest rest × (run ≡ joined first rest)

-- a run over each file in turn, up to the first that stops it; IsOne says what a run over one file is
abbrev pub IsEach : (List ℕ → Run → Type 0) → List (List ℕ) → Run → Type 0
IsEach IsOne [] run = run ≡ silent
IsEach IsOne (file ∷ files) run =
    (first : Run) × IsOne file first × IsFollowed (stops first) first (IsEach IsOne files) run

-- the message on a file, which says why it gives no answer
abbrev pub refusal : List ℕ → List ℕ → List ℕ
refusal file why = codes "mimelook: " ++ (file ++ (codes ": " ++ (why ++ codes "\n")))

-- the message on a file that can't be read
abbrev pub cannot_read : List ℕ → List ℕ
cannot_read path = codes "mimelook: " ++ (path ++ codes ": cannot read\n")

-- the message on a file that can't be written
abbrev pub cannot_write : List ℕ → List ℕ
cannot_write path = codes "mimelook: " ++ (path ++ codes ": cannot write\n")

-- the message on a file that is left as it was
abbrev pub not_replaced : List ℕ → List ℕ
not_replaced path = codes "mimelook: " ++ (path ++ codes ": not replaced\n")

-- memory ran out, and nothing is written
abbrev pub cut_short : Run
cut_short = record { status = 4; out = []; err = [] }

-- the message on running out of memory
abbrev pub out_of_memory : List ℕ
out_of_memory = codes "mimelook: out of memory\n"
