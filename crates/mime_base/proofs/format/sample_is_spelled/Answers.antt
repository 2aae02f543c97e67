use Rattle.mime_base.proofs.FormatLemmas.Sample.{sample_is_packed, sample_is_spelled}
use Rattle.mime_base.proofs.format.sample_is_spelled.Goals as goal

pub returns-clause-spells : goal.returns-clause-spells
returns-clause-spells c = sample_is_spelled

pub returns-clause-packed : goal.returns-clause-packed
returns-clause-packed c = sample_is_packed
