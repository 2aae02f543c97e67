use Rattle.mime_text.proofs.MagicLemmas.Laws.{spells_or_fails, no_fault, one_list}
use Rattle.mime_text.proofs.magic.laws.magic_text_or_fault.Goals as goal

pub returns-clause-either : goal.returns-clause-either
returns-clause-either c = spells_or_fails

pub returns-clause-never_both : goal.returns-clause-never_both
returns-clause-never_both c = no_fault

pub returns-clause-one_list : goal.returns-clause-one_list
returns-clause-one_list c = one_list
