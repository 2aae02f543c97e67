use Rattle.mime_text.proofs.MagicLemmas.ForestByRuns.{forest_by_runs}
use Rattle.mime_text.proofs.magic.laws.forest_is_by_runs.Goals as goal

pub returns : goal.returns
returns c = forest_by_runs
