use Rattle.mime_text.proofs.FaultLemmas.FaultsStay.{fault_stays}
use Rattle.mime_text.proofs.magic.laws.faults_stay.Goals as goal

pub returns : goal.returns
returns c = fault_stays
