use Rattle.std.proofs.Common.{◌∙◌, sym, ap}
use Rattle.std.proofs.lemmas.List.{get_or_default}
use Rattle.mime_base.specs.declared.database.pair.Pair.{Pair}
use Rattle.mime_lookup.proofs.places.target_at.Goals as goal

pub returns : goal.returns
returns c = λ pair is.
    let here = c.index-pairs-place in
    c.bytes.ensures.text
    ∙ ap (λ (p : Pair). p.target)
    (here.is ∙ get_or_default c.args.pairs.now c.args.place here.result pair c.requires.within ∙ sym is)
