use Rattle.mime_lookup.proofs.SpellingLemmas.Types.{candidates_once, kept_once}
use Rattle.mime_lookup.proofs.read_back.spelled_once.spelled_once.Goals as goal

pub returns : goal.returns
returns c = record { kept = kept_once; candidates = candidates_once }
