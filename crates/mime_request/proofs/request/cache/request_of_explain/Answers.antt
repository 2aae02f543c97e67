use Rattle.std.proofs.lemmas.Result.{err_from_is_err_and}
use Rattle.clap.specs.Words.{found_of, rows_of}
use Rattle.mime_request.specs.Request.{options_in, source_in}
use Rattle.mime_request.proofs.MeaningLemmas.Meanings.{conflict_means}
use Rattle.mime_request.proofs.request.cache.request_of_explain.Goals as goal

pub returns-in_err-source : goal.returns-in_err-source
returns-in_err-source c =
    let e = err_from_is_err_and c.from_residual.result c.from_residual.ensures.1 in
    rw (e.1, e.2) (conflict_means (source_in (rows_of (found_of c.args.matches.now))) _ _ c.in_err-source.ensures.conflict)

pub returns-in_err-options : goal.returns-in_err-options
returns-in_err-options c =
    let e = err_from_is_err_and c.from_residual-in_err-options.result c.from_residual-in_err-options.ensures.1 in
    rw (c.in_ok-source.ensures.found, e.1, e.2)
    (conflict_means (options_in (rows_of (found_of c.args.matches.now))) _ _ c.in_err-options.ensures.conflict)
