use Rattle.std.proofs.Common.{◌∙◌, sym}
use Rattle.mime_tool.specs.ExplainSteps.{database_of}
use Rattle.mime_tool.proofs.ExplainLemmas.Decisions.{first_decides, kinds_decide}
use Rattle.mime_tool.proofs.explain.decision.decide.Goals as goal

pub returns-then-is_content_first : goal.returns-then-is_content_first
returns-then-is_content_first c = λ name content is.
    let it = c.args.explaining in
    first_decides (database_of it) name content c.args.seen is it.order (sym c.is_content_first.ensures ∙ c.if-is_content_first.true)

pub returns : goal.returns
returns c = λ name content is.
    let it = c.args.explaining in
    kinds_decide (database_of it) name content c.args.seen is it.order c.asked_kinds-kinds.result.now c.choose.result
    (sym c.is_content_first.ensures ∙ c.if-is_content_first.false) c.asked_kinds-kinds.ensures c.choose.ensures.chosen c.choose.ensures.by
