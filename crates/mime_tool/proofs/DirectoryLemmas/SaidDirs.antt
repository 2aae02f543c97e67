-- Where directories say something, the magic of each is accepted.
use Rattle.std.proofs.Common.{◌∙◌, ℕ, zero, suc, List, [], ◌∷◌, sym}
use Rattle.std.proofs.lemmas.Option.{none-some}
use Rattle.mime_text.specs.DirTexts.{FirstRefused, SayDirs}
use Rattle.mime_text.specs.Merging.{PlainDir}
use Rattle.mime_text.specs.declared.dir_texts.DirTexts.{DirTexts}
use Rattle.mime_text.specs.declared.magic.fault.MagicFault.{MagicFault}
use Rattle.mime_text.proofs.MagicLemmas.Laws.{no_fault}

-- where directories say something, no magic is refused
pub none_refused : (dirs : List DirTexts) (plains : List PlainDir) (i : ℕ) (f : MagicFault) → SayDirs dirs plains
    → FirstRefused dirs i f → ⊥
none_refused [] plains i f says refused = refused
none_refused (dir ∷ dirs) [] i f says refused = says
none_refused (dir ∷ dirs) (plain ∷ plains) zero f says refused =
    none-some f (sym (no_fault dir.magic.now says.0.magic.0 says.0.magic.1) ∙ refused)
none_refused (dir ∷ dirs) (plain ∷ plains) (suc i) f says refused = none_refused dirs plains i f says.1 refused.1
