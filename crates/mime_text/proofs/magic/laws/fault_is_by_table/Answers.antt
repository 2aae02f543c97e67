use Rattle.mime_text.proofs.FaultLemmas.FaultText.{fault_found}
use Rattle.mime_text.proofs.FaultLemmas.FaultTextOnly.{fault_only}
use Rattle.mime_text.proofs.magic.laws.fault_is_by_table.Goals as goal

pub returns-clause-found : goal.returns-clause-found
returns-clause-found c = fault_found

pub returns-clause-only : goal.returns-clause-only
returns-clause-only c = fault_only
