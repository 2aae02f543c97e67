use Rattle.mime_base.specs.Cache.Bytes.{cards}
use Rattle.mime_store.proofs.BytesLemmas.Records.{length-cards}
use Rattle.mime_store.proofs.BytesLemmas.Written.{grew_by}
use Rattle.mime_store.proofs.bytes.append_numbers.Goals as goal

pub returns-clause-grew : goal.returns-clause-grew
returns-clause-grew c =
    rw c.in_ok-append_cards.ensures (grew_by _ (cards c.args.numbers.now) _ (length-cards c.args.numbers.now))
