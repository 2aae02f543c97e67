use Rattle.std.proofs.Common.{map}
use Rattle.std.proofs.lemmas.Result.{err_from_is_err_and}
use Rattle.mime_request.proofs.MeaningLemmas.Meanings.{error_means, matches_mean}
use Rattle.mime_request.proofs.request.request_of.Goals as goal

pub returns-in_err-matches : goal.returns-in_err-matches
returns-in_err-matches g c =
    let p = err_from_is_err_and c.from_residual.result c.from_residual.ensures.1 in
    error_means (map g.S.AsStr.text c.args.words.now) p.0 _ (rw p.2 c.in_err-matches.ensures) p.1

pub returns : goal.returns
returns g c = matches_mean (map g.S.AsStr.text c.args.words.now) _ _ c.in_ok-matches.ensures.0
    c.in_ok-matches.ensures.1 c.asked_by.ensures
