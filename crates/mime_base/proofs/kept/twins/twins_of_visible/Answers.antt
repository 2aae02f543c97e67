use Rattle.mime_base.proofs.KeptLemmas.Twins.{without_twins-visible}
use Rattle.mime_base.proofs.kept.twins.twins_of_visible.Goals as goal

pub returns : goal.returns
returns c = without_twins-visible
