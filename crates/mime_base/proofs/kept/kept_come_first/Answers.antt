use Rattle.mime_base.proofs.KeptLemmas.Candidates.{take-candidate_rules}
use Rattle.mime_base.proofs.kept.kept_come_first.Goals as goal

pub returns : goal.returns
returns c = take-candidate_rules
