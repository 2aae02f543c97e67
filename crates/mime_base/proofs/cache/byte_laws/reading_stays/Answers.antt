use Rattle.mime_base.proofs.CacheLemmas.Numbers.{fields-more}
use Rattle.mime_base.proofs.CacheLemmas.Standing.{value_at-more}
use Rattle.mime_base.proofs.CacheLemmas.TextsStand.{text_at-more}
use Rattle.mime_base.proofs.cache.byte_laws.reading_stays.Goals as goal

pub returns : goal.returns
returns c = record { numbers = fields-more; text = text_at-more; value = value_at-more }
