use Rattle.mime_request.proofs.SpellingLemmas.BuildWords.{meaning_of-build_of_user}
use Rattle.mime_request.proofs.spelling.build.spelling_of_build_of_user.Goals as goal

pub returns : goal.returns
returns c = meaning_of-build_of_user
