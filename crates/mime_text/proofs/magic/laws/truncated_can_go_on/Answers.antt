use Rattle.mime_text.proofs.FaultLemmas.FaultsGoOn.{open_goes_on, goes_on_open}
use Rattle.mime_text.proofs.FaultLemmas.FaultsEnd.{cut_settles}
use Rattle.mime_text.proofs.magic.laws.truncated_can_go_on.Goals as goal

pub returns-clause-goes_on : goal.returns-clause-goes_on
returns-clause-goes_on c = λ text fault has. (goes_on_open text fault has, open_goes_on text fault)

pub returns-clause-ends : goal.returns-clause-ends
returns-clause-ends c = cut_settles
