use Rattle.std.proofs.Common.{sym}
use Rattle.mime_base.proofs.KeptLemmas.Offers.{items-ranked}
use Rattle.mime_base.proofs.kept.Best.into_items.Goals as goal

pub returns : goal.returns
returns g c = rw (← c.self.view_is) (sym (items-ranked c.self.inside.rank c.self.inside.items.items))
