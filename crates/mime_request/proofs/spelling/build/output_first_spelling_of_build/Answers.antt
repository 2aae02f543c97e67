use Rattle.std.proofs.Common.{◌∙◌, sym}
use Rattle.mime_request.proofs.SpellingLemmas.BuildWords.{meaning_of-output_first, meaning_of-usual_build}
use Rattle.mime_request.proofs.spelling.build.output_first_spelling_of_build.Goals as goal

pub returns : goal.returns
returns c = λ dirs file d f. meaning_of-output_first dirs file d f ∙ sym (meaning_of-usual_build dirs file d f)
