use Rattle.std.proofs.Common.{List, map, take_all, ap, ◌∙◌, arith}
use Rattle.std.proofs.lemmas.Simd.{map-map}
use denote.Bor.{Bor}
use Rattle.mime_names.specs.Index.{texts_of}
use Rattle.mime_names.specs.declared.indexed_rule.IndexedRule.{IndexedRule}
use Rattle.mime_names.proofs.candidates.candidate_kinds.Goals as goal

pub push_reserved-requires : goal.push_reserved-requires
push_reserved-requires c =
    omega (arith, c.loop-rule.invariant.long, c.loop-rule.invariant.room, c.loop-rule-test.true, c.loop-rule.kinds.ok.0)

pub returns-clause-candidates : goal.returns-clause-candidates
returns-clause-candidates c =
    let kind = λ (rule : Bor IndexedRule). rule.now.kind in
    ap texts_of (c.loop-rule.invariant.are
    ∙ ap (map kind) (take_all c.loop-rule.rule-index c.deref-rule-items.result.now c.loop-rule-test.false ∙ c.deref-rule-items.ensures.value))
    ∙ map-map (λ (text : Bor (List _)). text.now) kind _
    ∙ c.in_ok-rules.ensures.given
