use Rattle.mime_request.proofs.SpellingLemmas.UsualWords.{meaning_of-usual_type}
use Rattle.mime_request.proofs.spelling.cache.usual_spelling_of_type.Goals as goal

pub returns : goal.returns
returns c = meaning_of-usual_type
