use Rattle.mime_base.proofs.CacheLemmas.TextFaults.{order_at-refused, text_at-long, text_at-outside}
use Rattle.mime_base.proofs.CacheLemmas.TextsStand.{text_at-read}
use Rattle.mime_base.proofs.cache.byte_laws.texts_are_read.Goals as goal

pub returns : goal.returns
returns c = record {
  text = text_at-read;
  long = text_at-long;
  outside = text_at-outside;
  order = order_at-refused;
}
