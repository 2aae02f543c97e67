use Rattle.std.proofs.Common.{drop, ap, ◌∙◌}
use Rattle.mime_load.proofs.EndingLemmas.{one_less}
use Rattle.mime_load.proofs.ending.NameEnding.shrink.Goals as goal

pub returns : goal.returns
returns c =
    one_less c.self.inside.bytes c.put.new.bytes c.self.inside.start c.put.ensures.written ∙ ap (drop 1) c.self.view_is
