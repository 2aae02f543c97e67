use Rattle.mime_request.proofs.SpellingLemmas.CacheWords.{meaning_of-usual_check}
use Rattle.mime_request.proofs.spelling.cache.usual_spelling_of_check.Goals as goal

pub returns : goal.returns
returns c = meaning_of-usual_check
