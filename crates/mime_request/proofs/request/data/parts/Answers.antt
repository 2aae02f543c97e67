use Rattle.std.proofs.Common.{rules, lit<, length, not, ◌==◌}
use Rattle.std.specs.Iterator.Adapters.{filter_source}
use Rattle.std.proofs.lemmas.Iterator.Consumers.{YieldsList-from_filter, map_from_collect}
use Rattle.std.proofs.lemmas.Iterator.Splits.{YieldsList-from_str_split}
use Rattle.mime_request.proofs.request.data.parts.Goals as goal

pub returns : goal.returns
returns c = map_from_collect _ c.collect.ensures.ran
    (YieldsList-from_filter {s = c.filter.result} _ (λ part. not (length part == 0))
    (YieldsList-from_str_split {s = filter_source c.filter.result} 58 c.args.dirs.now (lit< tt)
    (search rules) (search rules) (search rules))
    c.filter.ensures.closure (λ x b q k. search rules))
