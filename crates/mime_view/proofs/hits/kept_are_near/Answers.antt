use Rattle.mime_view.proofs.HitsLemmas.KeptNear.{kept_near}
use Rattle.mime_view.proofs.hits.kept_are_near.Goals as goal

pub returns : goal.returns
returns c = kept_near
