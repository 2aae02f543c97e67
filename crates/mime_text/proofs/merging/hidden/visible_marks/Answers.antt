use Rattle.std.proofs.Common.{◌∙◌, ap, arith, map, not}
use Rattle.std.proofs.lemmas.List.{take_all}
use Rattle.mime_base.specs.Kept.Hidden.{is_hidden}
use Rattle.mime_text.specs.Merging.Hiding.{is_outweighed, weight_in}
use Rattle.mime_text.proofs.Merges.Twins.{is_outweighed-is_hidden, map-agree}
use Rattle.mime_text.proofs.merging.hidden.visible_marks.Goals as goal

pub returns : goal.returns
returns c =
    let f = weight_in c.in_ok-weights.weights in
    let rules = c.args.rules.now in
    c.loop-rule.invariant.shown
    ∙ ap (map (λ rule. not (is_outweighed f rule))) (take_all c.loop-rule.rule-index rules (omega (arith, c.loop-rule-test.false)))
    ∙ map-agree (λ rule. not (is_outweighed f rule)) (λ rule. not (is_hidden rules rule))
    (λ rule. ap not (is_outweighed-is_hidden rules f c.in_ok-weights.ensures rule)) rules
