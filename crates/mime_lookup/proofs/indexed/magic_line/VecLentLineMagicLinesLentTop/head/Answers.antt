use Rattle.std.proofs.Common.{◌∷◌, take, drop, ap, ◌∙◌, sym, subst}
use Rattle.mime_load.specs.Lent.{first_of}
use Rattle.mime_lookup.specs.Heads.{IsHeadOf}
use Rattle.mime_lookup.proofs.IndexLemmas.LineHeads.{head_of_line}
use Rattle.mime_lookup.proofs.indexed.magic_line.VecLentLineMagicLinesLentTop.head.Goals as goal

pub returns-in-Some : goal.returns-in-Some
returns-in-Some c =
    let top = c.args.top.now in
    let are = ap (λ ms. take top.size (drop top.place ms)) (sym c.deref.ensures.value) ∙ sym c.lines_from.ensures
    ∙ c.in-Some.ensures.cases.0 in
    subst (λ ms. IsHeadOf c.head_of.result (first_of ms)) (sym are)
    (head_of_line c.head_of.result (first_of (c.in-Some.line.now ∷ _)) c.head_of.ensures)
