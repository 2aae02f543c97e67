use Rattle.std.proofs.Common.{◌∙◌, ap, arith, map, not}
use Rattle.std.proofs.lemmas.List.{take_all}
use Rattle.mime_base.specs.Kept.Twins.{is_twin}
use Rattle.mime_text.specs.Merging.TwinKeys.{is_kept}
use Rattle.mime_text.proofs.Merges.TwinKeys.{is_kept-twin}
use Rattle.mime_text.proofs.Merges.Twins.{map-agree}
use Rattle.mime_text.proofs.merging.twins.kept_marks.Goals as goal

pub returns : goal.returns
returns c =
    let cased = c.in_ok-cased.cased in
    let rules = c.args.rules.now in
    c.loop-rule.invariant
    ∙ ap (map (is_kept cased)) (take_all c.loop-rule.rule-index rules (omega (arith, c.loop-rule-test.false)))
    ∙ map-agree (is_kept cased) (λ rule. not (is_twin rules rule)) (is_kept-twin rules cased c.in_ok-cased.ensures) rules
