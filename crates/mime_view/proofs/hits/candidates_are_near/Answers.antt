use Rattle.mime_view.proofs.HitsLemmas.KeptNear.{candidates_near}
use Rattle.mime_view.proofs.hits.candidates_are_near.Goals as goal

pub returns : goal.returns
returns c = candidates_near
