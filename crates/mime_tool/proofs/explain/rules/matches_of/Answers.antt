use Rattle.std.proofs.Common.{◌∙◌, ap, map}
use Rattle.mime_base.specs.Database.Lent.{plain_rule}
use Rattle.mime_lookup.proofs.LookUpLemmas.SpelledParts.{spelled_globs}
use Rattle.mime_tool.specs.ExplainSteps.{database_of}
use Rattle.mime_tool.proofs.ExplainLemmas.Matching.{candidates-offers, kept-offers}
use Rattle.mime_tool.proofs.explain.rules.matches_of.Goals as goal

pub returns : goal.returns
returns c =
    let it = c.args.explaining in
    let ready = c.requires.ready in
    let name = c.args.name.now in
    let offers = c.in_ok-offers.offers.items in
    let are = rw ready.rules at c.in_ok-offers.ensures in
    let fits = (spelled_globs it.bytes.now (database_of it) ready.back.limits ready.back.spelled).ranks in (
      ap (map plain_rule) (rw c.as_slice.ensures.value at c.in_ok-kept.ensures) ∙ kept-offers (database_of it).rules name offers are fits,
      ap (map plain_rule) (rw (c.as_slice-2.ensures.value, c.in_ok-offers-2.ensures) at c.in_ok-candidates.ensures)
          ∙ candidates-offers (database_of it).rules name offers are,
    )
