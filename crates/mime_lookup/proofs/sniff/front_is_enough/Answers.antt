use Rattle.mime_lookup.proofs.SniffLemmas.Sniffs.{front_is_enough}
use Rattle.mime_lookup.proofs.sniff.front_is_enough.Goals as goal

pub returns : goal.returns
returns c = front_is_enough
