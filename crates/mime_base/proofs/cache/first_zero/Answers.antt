use Rattle.mime_base.proofs.CacheLemmas.Zeros.{first_zero-is}
use Rattle.mime_base.proofs.cache.first_zero.Goals as goal

pub returns : goal.returns
returns c = first_zero-is c.args.bytes.now c.memchr.result c.memchr.ensures
