use Rattle.mime_load.proofs.SpelledParts.{spelled_icons}
use Rattle.mime_load.proofs.icon_lists.read_icons.Goals as goal

pub returns-clause-written : goal.returns-clause-written
returns-clause-written c = λ b spelled.
    c.icon_lists_of-result.ensures.need b.aliases b.icons b.generic_icons (spelled_icons c.args.counted.now b spelled) spelled.within
