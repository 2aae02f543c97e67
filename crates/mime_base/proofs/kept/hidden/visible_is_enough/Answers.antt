use Rattle.mime_base.proofs.KeptLemmas.Hidden.{kept_rules-visible}
use Rattle.mime_base.proofs.KeptLemmas.Spellings.{spellings_fold_alike}
use Rattle.mime_base.proofs.kept.hidden.visible_is_enough.Goals as goal

pub returns-clause-enough : goal.returns-clause-enough
returns-clause-enough c = kept_rules-visible

pub returns-clause-spellings : goal.returns-clause-spellings
returns-clause-spellings c = spellings_fold_alike
