use Rattle.mime_request.proofs.SpellingLemmas.TwinlessBuilds.{meaning_of-build_without_twins}
use Rattle.mime_request.proofs.spelling.build.spelling_of_build_without_twins.Goals as goal

pub returns : goal.returns
returns c = meaning_of-build_without_twins
