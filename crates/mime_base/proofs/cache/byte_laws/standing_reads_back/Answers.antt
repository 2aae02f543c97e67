use Rattle.mime_base.proofs.CacheLemmas.Numbers.{fields-standing}
use Rattle.mime_base.proofs.CacheLemmas.Standing.{value_at-standing}
use Rattle.mime_base.proofs.CacheLemmas.TextsStand.{text_at-standing}
use Rattle.mime_base.proofs.cache.byte_laws.standing_reads_back.Goals as goal

pub returns : goal.returns
returns c = record { numbers = fields-standing; text = text_at-standing; value = value_at-standing }
