use Rattle.mime_load.specs.Lent.{plain_pairs}
use Rattle.mime_lookup.proofs.SpellingLemmas.NamedPairs.{named-targets}
use Rattle.mime_lookup.proofs.read_back.targets.targets_of.Goals as goal

pub returns-clause-are : goal.returns-clause-are
returns-clause-are c = named-targets (plain_pairs c.args.aliases.now) c.in_ok-targets.targets c.in_ok-targets.ensures.named
