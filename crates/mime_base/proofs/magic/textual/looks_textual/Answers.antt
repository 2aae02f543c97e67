use Rattle.std.proofs.Common.{◌∙◌, ap, not, rules, tests, take}
use Rattle.std.proofs.lemmas.List.{take_min}
use Rattle.std.proofs.lemmas.Iterator.{YieldsList-from_slice}
use Rattle.std.proofs.lemmas.Iterator.Search.{any_from_yields_List}
use Rattle.mime_base.specs.Magic.Textual.{is_control, looks_textual}
use Rattle.mime_base.proofs.magic.textual.looks_textual.Goals as goal

pub returns : goal.returns
unfolding looks_textual
returns c =
    let front = ap (λ n. take n c.args.content.now) c.min.ensures ∙ take_min 128 c.args.content.now in
    ap not (any_from_yields_List is_control _ _ c.any.result c.any.ensures.ran
    (YieldsList-from_slice (take 128 c.args.content.now) (c.iter.ensures.rest ∙ front))
    (λ x b q k. search (rules, tests)))
