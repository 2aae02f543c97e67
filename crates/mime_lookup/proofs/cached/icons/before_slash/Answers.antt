use Rattle.std.proofs.Common.{sym, ◌∙◌}
use Rattle.mime_lookup.proofs.AncestryLemmas.MediaTypes.{before_slash-none, before_slash-some}
use Rattle.mime_lookup.proofs.cached.icons.before_slash.Goals as goal

pub returns-in-Some : goal.returns-in-Some
returns-in-Some c = before_slash-some c.args.kind.now c.in-Some.slash (sym c.first_slash.ensures.place ∙ c.in-Some.is)

pub returns-in-None : goal.returns-in-None
returns-in-None c = before_slash-none c.args.kind.now (sym c.first_slash.ensures.place ∙ c.in-None.is)
