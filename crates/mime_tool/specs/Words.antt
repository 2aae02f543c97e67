-- What words ask for, of which some are no text.
use Rattle.std.specs.Prelude.{ℕ, List, [], ◌∷◌, ◌++◌, Option, Some, None, codes, decimal, if◌then◌else◌, map}
use Rattle.std.specs.List.{list_any}
use Rattle.std.specs.Str.{bytes_eq}
use Rattle.mime_request.specs.Request.{Meaning, PlainRequest, PlainSubjects, asks, explain, meaning_of, of_files, of_input, of_list, plain, refused, type_of}
use Rattle.mime_tool.specs.Program.{asked_files}
use Rattle.mime_tool.specs.declared.words.RawWord.{RawWord}

-- what words ask for: what they mean; or nothing, since the one of this number is no text and no FILE
pub data Heard : Type 0 where
  means : Meaning → Heard
  no_text : ℕ → Heard

-- the name of a FILE: the word that its text stands in for, or the text
abbrev pub name_of : List RawWord → List ℕ → List ℕ
name_of [] text = text
name_of (raw ∷ raws) text = if bytes_eq text raw.stand_in.now then raw.bytes.now else name_of raws text

-- the names of FILEs
abbrev pub names_of : List RawWord → List (List ℕ) → List (List ℕ)
names_of raws files = map (name_of raws) files

-- what is looked up, with the names of FILEs
abbrev pub named_subjects : List RawWord → PlainSubjects → PlainSubjects
named_subjects raws (of_files files) = of_files (names_of raws files)
named_subjects raws (of_input name) = of_input name
named_subjects raws (of_list path) = of_list path

-- a request, with the names of its FILEs
abbrev pub with_names : List RawWord → PlainRequest → PlainRequest
with_names raws (plain dirs options subjects) = plain dirs options (named_subjects raws subjects)
with_names raws (type_of source options subjects) = type_of source options (named_subjects raws subjects)
with_names raws (explain source options files) = explain source options (names_of raws files)
with_names raws q = q

-- the number of the first word that is no text and none of these FILEs
abbrev pub misplaced : List RawWord → List (List ℕ) → Option ℕ
misplaced [] files = None
misplaced (raw ∷ raws) files =
    if list_any (λ file. bytes_eq file raw.stand_in.now) files then misplaced raws files else Some raw.number

-- what a request asks for, where no word or this one is misplaced
abbrev pub placed : Option ℕ → List RawWord → PlainRequest → Heard
placed (Some number) raws q = no_text number
placed None raws q = means (asks (with_names raws q))

-- what words of this meaning ask for, where these are no text
abbrev pub heard_in : List RawWord → Meaning → Heard
heard_in [] m = means m
heard_in (raw ∷ raws) (refused kinds) = no_text raw.number
heard_in (raw ∷ raws) (asks q) = placed (misplaced (raw ∷ raws) (asked_files q)) (raw ∷ raws) q

-- what words ask for, where these are no text, and a text stands in for each
abbrev pub heard : List RawWord → List (List ℕ) → Heard
heard raws words = heard_in raws (meaning_of words)

-- the message on a word that is no text
abbrev pub not_text : ℕ → List ℕ
not_text number = codes "mimelook: word " ++ (decimal number ++ codes " is not text (UTF-8)\n")
