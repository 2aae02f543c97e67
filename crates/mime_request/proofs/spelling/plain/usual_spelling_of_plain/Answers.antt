use Rattle.mime_request.proofs.SpellingLemmas.UsualWords.{meaning_of-usual_plain}
use Rattle.mime_request.proofs.spelling.plain.usual_spelling_of_plain.Goals as goal

pub returns : goal.returns
returns c = meaning_of-usual_plain
