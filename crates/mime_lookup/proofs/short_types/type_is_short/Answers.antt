use Rattle.mime_lookup.proofs.CostLemmas.ShortTexts.{is_type_name-short}
use Rattle.mime_lookup.proofs.short_types.type_is_short.Goals as goal

pub returns : goal.returns
returns c = is_type_name-short c.args.kind.now c.bytes.ensures.limits
