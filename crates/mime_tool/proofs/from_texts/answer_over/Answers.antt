use Rattle.std.proofs.lemmas.Result.{err_from_is_err_and}
use Rattle.mime_base.specs.Database.{plain_database}
use Rattle.mime_lookup.specs.CheckingOrder.{globs_suffice}
use Rattle.mime_tool.proofs.AnswerLemmas.ContentReaders.{asks_early, reader_early, store_early}
use Rattle.mime_tool.proofs.from_texts.answer_over.Goals as goal

pub returns-in_err-cache-clause-reader : goal.returns-in_err-cache-clause-reader
returns-in_err-cache-clause-reader g c =
    let e = err_from_is_err_and c.from_residual.result c.from_residual.ensures.1 in
    rw (e.1, e.2) (reader_early g.R.Read.remaining g.R.Content.tally g.R.Content.health c.args.content.now _
    (store_early (plain_database c.args.database.now) _ c.in_err-cache.ensures.fault))

pub returns-in_err-cache-clause-asked : goal.returns-in_err-cache-clause-asked
returns-in_err-cache-clause-asked g c =
    let e = err_from_is_err_and c.from_residual.result c.from_residual.ensures.1 in
    rw (e.1, e.2) (asks_early g.R.Content.health (globs_suffice (plain_database c.args.database.now) c.args.name.now c.args.order)
    c.args.content.now c.args.content.now _ (store_early (plain_database c.args.database.now) _ c.in_err-cache.ensures.fault))
