use Rattle.std.proofs.Common.{arith}
use Rattle.std.proofs.lemmas.List.{length-take}
use Rattle.mime_base.proofs.cache.comparing.early_stop.Goals as goal

pub returns-in-16-to-32 : goal.returns-in-16-to-32
returns-in-16-to-32 c = (c.shared_by_sixteens.ensures.shared, omega (arith, length-take 256 c.args.rest.now))
