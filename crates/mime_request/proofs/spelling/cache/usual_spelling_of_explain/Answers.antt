use Rattle.mime_request.proofs.SpellingLemmas.ExplainWords.{meaning_of-usual_explain}
use Rattle.mime_request.proofs.spelling.cache.usual_spelling_of_explain.Goals as goal

pub returns : goal.returns
returns c = meaning_of-usual_explain
