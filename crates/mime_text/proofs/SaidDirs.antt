-- What directories say, one more at a time, and the first whose magic is refused.
use Rattle.std.proofs.Common.{◌≡◌, ◌∙◌, ℕ, zero, suc, ◌+◌, ◌<◌, List, [], ◌∷◌, ◌++◌, Some, arith, sym}
use Rattle.std.proofs.Common.{ap, subst, get_or, length, take}
use Rattle.std.proofs.lemmas.List.{map-append, take_more}
use Rattle.mime_text.specs.DirTexts.{FirstRefused, IsFaultIn, IsFaultOfDirs, SayDirs, SaysDir}
use Rattle.mime_text.specs.Magic.Reading.{magic_fault}
use Rattle.mime_text.specs.Merging.{PlainDir, plain_dir, plain_dirs}
use Rattle.mime_text.specs.declared.dir_texts.DirTexts.{DirTexts}
use Rattle.mime_text.specs.declared.dir_texts.DirsFault.{DirsFault}
use Rattle.mime_text.specs.declared.dir_texts.DirsFault.TheVariants as dirs_fault
use Rattle.mime_text.specs.declared.magic.fault.MagicFault.{MagicFault}
use Rattle.mime_text.specs.declared.magic.fault.MagicFault.TheVariants.{Malformed}
use Rattle.mime_text.specs.declared.merging.DirFiles.{DirFiles}
use Rattle.mime_text.proofs.MagicLemmas.Laws.{no_fault}

-- one more directory
say_one_more : (dirs : List DirTexts) (plains : List PlainDir) (dir : DirTexts) (plain : PlainDir) → SayDirs dirs plains
    → SaysDir dir plain → SayDirs (dirs ++ dir ∷ []) (plains ++ plain ∷ [])
say_one_more [] [] dir plain says is = (is, tt)
say_one_more [] (first ∷ plains) dir plain says is = absurd says
say_one_more (first ∷ dirs) [] dir plain says is = absurd says
say_one_more (first ∷ dirs) (said ∷ plains) dir plain says is = (says.0, say_one_more dirs plains dir plain says.1 is)

-- one more directory of a loop
pub say_more : (dirs : List DirTexts) (i : ℕ) (d : DirTexts) → i < length dirs → (files more : List DirFiles) (file : DirFiles)
    → more ≡ files ++ file ∷ [] → SayDirs (take i dirs) (plain_dirs files) → SaysDir (get_or dirs i d) (plain_dir file)
    → SayDirs (take (i + 1) dirs) (plain_dirs more)
say_more dirs i d within files more file are says is =
    let plains = ap plain_dirs are ∙ map-append plain_dir files (file ∷ []) in
    let all = say_one_more (take i dirs) (plain_dirs files) (get_or dirs i d) (plain_dir file) says is in
    subst (λ front. SayDirs front (plain_dirs more)) (sym (take_more dirs i d within))
    (subst (λ ps. SayDirs (take i dirs ++ get_or dirs i d ∷ []) ps) (sym plains) all)

-- the fault of a directory after those that say something is the first
refused_at : (dirs : List DirTexts) (i : ℕ) (d : DirTexts) (plains : List PlainDir) (f : MagicFault) → i < length dirs
    → SayDirs (take i dirs) plains → magic_fault (get_or dirs i d).magic.now ≡ Some f → FirstRefused dirs i f
refused_at [] i d plains f within says is = absurd (omega (arith, within))
refused_at (dir ∷ dirs) zero d plains f within says is = is
refused_at (dir ∷ dirs) (suc i) d [] f within says is = absurd says
refused_at (dir ∷ dirs) (suc i) d (plain ∷ plains) f within says is = (
  no_fault dir.magic.now says.0.magic.0 says.0.magic.1,
  refused_at dirs i d plains f (omega (arith, within)) says.1 is,
)

-- so is what stops the loop there
pub fault_at : (dirs : List DirTexts) (i : ℕ) (d : DirTexts) (plains : List PlainDir) (e : DirsFault) → i < length dirs
    → SayDirs (take i dirs) plains → IsFaultIn (get_or dirs i d).magic.now i e → IsFaultOfDirs dirs e
fault_at dirs i d plains dirs_fault.OutOfMemory within says is = tt
fault_at dirs i d plains (dirs_fault.Magic j kind offset) within says is =
    subst (λ (n : ℕ). FirstRefused dirs n (Malformed kind offset)) (sym is.0)
    (refused_at dirs i d plains (Malformed kind offset) within says is.1)
