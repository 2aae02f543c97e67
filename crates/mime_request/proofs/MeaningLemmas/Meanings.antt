-- What a parse by clap says of the meaning of the words.
use Rattle.std.proofs.Common.{◌≡◌, true, List, [], ◌∷◌, Option, Some, None, Ok, Err, IfOk, inl, inr, refl, Result}
use Rattle.clap.specs.Walk.{Row, Text}
use Rattle.clap.specs.Simple.{App, HasMatchesOf, is_simple, subcommand_of}
use Rattle.clap.specs.Faults.{fault_of, is_simple_and_free}
use Rattle.clap.specs.Kinds.{FailsBy, HasKind, Kinds}
use Rattle.clap.specs.Values.{kind_of}
use Rattle.clap.specs.declared.error.Error.{Error}
use Rattle.clap.specs.declared.error.kind.ErrorKind.TheVariants as kind
use Rattle.clap.specs.declared.parser.matches.ArgMatches.{ArgMatches}
use Rattle.mime_request.specs.CommandLine.{mimelook}
use Rattle.mime_request.specs.Request.{Finds, Meaning, Means, apart, asks, conflicts, meaning_by, meaning_of, refused, right, wrong}
use Rattle.mime_request.specs.Request.{subcommand_meaning}
use Rattle.mime_request.specs.declared.request.Request.{Request}

-- `mimelook` is a command whose matches clap tells
simple : is_simple mimelook ≡ true
simple = refl

-- and whose refusals it tells
simple_and_free : is_simple_and_free mimelook ≡ true
simple_and_free = refl

-- what clap ensures of a parse by a command that is `mimelook`
pub clap_finds : (a : App) (words : List Text) (r : Result ArgMatches Error) → a ≡ mimelook → IfOk r (HasMatchesOf a words)
    → (is_simple_and_free a ≡ true → FailsBy (fault_of a words) r) → Finds words r
clap_finds a words (Ok m) is matches kinds =
    let found : HasMatchesOf mimelook words m = rw is at matches in
    let fails : is_simple_and_free mimelook ≡ true → fault_of mimelook words ≡ [] = rw is at kinds in
    (fails simple_and_free, (found simple).1)
clap_finds a words (Err e) is matches kinds =
    let fails : is_simple_and_free mimelook ≡ true → HasKind (fault_of mimelook words) e = rw is at kinds in
    fails simple_and_free

-- out of memory answers any words
pub memory_means : (m : Meaning) (e : Error) → kind_of e ≡ kind.OutOfMemory → Means m (Err e)
memory_means (asks a) e h = h
memory_means (refused kinds) e h = inl h

-- an error of clap's
pub fault_means : (ks : Kinds) (met : Option (Text × List Row)) (e : Error) → HasKind ks e → Means (meaning_by ks met) (Err e)
fault_means [] met e h = elim h [ inl memory ↦ memory_means (subcommand_meaning met) e memory | inr none ↦ absurd none ]
fault_means (k ∷ ks) met e h = h

-- an error of clap's kind is what the words mean
pub error_means : (words : List Text) (e : Error) (r : Result Request Error) → HasKind (fault_of mimelook words) e → r ≡ Err e
    → Means (meaning_of words) r
unfolding meaning_of
error_means words e r h is = rw is (fault_means (fault_of mimelook words) (subcommand_of mimelook words) e h)

-- matches of clap's
pub matches_mean : (words : List Text) (met : Option (Text × List Row)) (r : Result Request Error) → fault_of mimelook words ≡ []
    → met ≡ subcommand_of mimelook words
    → Means (subcommand_meaning met) r → Means (meaning_of words) r
unfolding meaning_of
matches_mean words met r free is h = rw (free, ← is) h

-- arguments that can't be given together
pub conflict_means : {A : Type 0} (x : Option A) (means : A → Meaning) (e : Error) → HasKind (conflicts x) e
    → Means (apart x means) (Err e)
conflict_means None means e h = h
conflict_means (Some x) means e h = elim h [ inl memory ↦ memory_means (means x) e memory | inr none ↦ absurd none ]

-- arguments that are wrong
pub wrong_means : {A : Type 0} (x : Result A Kinds) (means : A → Meaning) (e : Error) → HasKind (wrong x) e
    → Means (right x means) (Err e)
wrong_means (Err kinds) means e h = h
wrong_means (Ok x) means e h = elim h [ inl memory ↦ memory_means (means x) e memory | inr none ↦ absurd none ]
