use Rattle.mime_request.proofs.SpellingLemmas.BuildWords.{meaning_of-usual_build}
use Rattle.mime_request.proofs.spelling.build.usual_spelling_of_build.Goals as goal

pub returns : goal.returns
returns c = meaning_of-usual_build
