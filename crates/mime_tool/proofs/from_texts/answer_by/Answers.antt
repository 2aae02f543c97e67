use Rattle.std.proofs.Common.{inl, sym, subst}
use Rattle.std.proofs.lemmas.Result.{err_from_is_err_and}
use Rattle.mime_base.specs.Format.Packed.{Packed}
use Rattle.mime_base.specs.Format.Spells.{Spells}
use Rattle.mime_lookup.specs.CheckingOrder.{globs_suffice}
use Rattle.mime_lookup.proofs.LookUpLemmas.SpelledParts.{spelled_globs}
use Rattle.mime_tool.proofs.AnswerLemmas.AnswersOver.{answer_over, stopped_over}
use Rattle.mime_tool.proofs.AnswerLemmas.CachedStops.{read_or_memory}
use Rattle.mime_tool.proofs.AnswerLemmas.ContentReaders.{asks_stopped, reader_lost, reader_stopped}
use Rattle.mime_tool.proofs.from_texts.answer_by.Goals as goal

pub returns-in_err-answer-clause-comes : goal.returns-in_err-answer-clause-comes
returns-in_err-answer-clause-comes g c = λ b limits is fits.
    let e = err_from_is_err_and c.from_residual.result c.from_residual.ensures.1 in
    let at = sym c.new.ensures in
    let spells = subst (λ bytes. Spells bytes b) at is.spells in
    let packed = subst (λ bytes. Packed bytes b) at is.packed in
    rw (e.1, e.2) (stopped_over b c.args.name.now c.args.cache.now _ _ _ fits is.long c.new.ensures
    c.in_err-answer.ensures.stops.too_long
    (λ short. read_or_memory (c.in_err-answer.ensures.stops.need b (inl (limits, spells)) spells.within packed short))
    c.in_err-answer.ensures.costs.bounds)

pub returns-in_err-answer-clause-reader : goal.returns-in_err-answer-clause-reader
returns-in_err-answer-clause-reader g c =
    let e = err_from_is_err_and c.from_residual.result c.from_residual.ensures.1 in
    rw (e.1, e.2) (reader_stopped g.R.Read.remaining g.R.Content.tally g.R.Content.health _ _ _
    c.in_err-answer.ensures.reads.reader.gives_up c.in_err-answer.ensures.reads.reader.fails
    c.in_err-answer.ensures.reads.reader.advances)

pub returns-in_err-answer-clause-asked : goal.returns-in_err-answer-clause-asked
returns-in_err-answer-clause-asked g c = λ b limits is.
    let e = err_from_is_err_and c.from_residual.result c.from_residual.ensures.1 in
    let spells = subst (λ bytes. Spells bytes b) (sym c.new.ensures) is.spells in
    rw (e.1, e.2) (asks_stopped g.R.Content.health (globs_suffice b c.args.name.now c.args.order) c.args.content.now c.args.content.now _
    (c.in_err-answer.ensures.reads.asks b (spelled_globs c.new.result b limits spells)).asked)

pub returns-in_err-kind-clause-reader : goal.returns-in_err-kind-clause-reader
returns-in_err-kind-clause-reader g c =
    let e = err_from_is_err_and c.from_residual-in_err-kind.result c.from_residual-in_err-kind.ensures.1 in
    rw (e.1, e.2) (reader_lost g.R.Read.remaining g.R.Content.tally g.R.Content.health _ _ _ c.in_ok-answer.ensures.reads.reader.advances)

pub returns-clause-comes : goal.returns-clause-comes
returns-clause-comes g c = λ b limits is fits.
    let spells = subst (λ bytes. Spells bytes b) (sym c.new.ensures) is.spells in
    answer_over b c.args.name.now c.args.cache.now _ _ _ _ _ _ c.in_ok-kind.kind fits is.long c.new.ensures
    c.in_ok-answer.ensures.stops.too_long (c.in_ok-answer.ensures.answers.chosen b (inl (limits, spells)))
    (c.in_ok-answer.ensures.reads.exact b limits spells) c.in_ok-answer.ensures.costs.bounds (c.in_ok-kind.ensures.items_if_clones_equal (λ x y same. same))
