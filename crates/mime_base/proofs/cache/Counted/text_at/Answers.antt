use Rattle.std.proofs.Common.{drop, arith}
use Rattle.std.proofs.lemmas.List.{length-take}
use Rattle.mime_base.specs.Cache.Texts.{text_cost}
use Rattle.mime_base.proofs.cache.Counted.text_at.Goals as goal

pub returns-in-Some-clause-limit : goal.returns-in-Some-clause-limit
unfolding text_cost
returns-in-Some-clause-limit c = omega (arith, length-take 256 (drop c.args.at c.args.self.now))
