use Rattle.mime_base.proofs.KeptLemmas.{of_greatest-rank_of_rule}
use Rattle.mime_base.proofs.kept.greatest_rank_is_preferred.Goals as goal

pub returns : goal.returns
returns c = of_greatest-rank_of_rule
