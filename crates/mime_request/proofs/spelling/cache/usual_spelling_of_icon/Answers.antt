use Rattle.mime_request.proofs.SpellingLemmas.CacheWords.{meaning_of-usual_icon}
use Rattle.mime_request.proofs.spelling.cache.usual_spelling_of_icon.Goals as goal

pub returns : goal.returns
returns c = meaning_of-usual_icon
