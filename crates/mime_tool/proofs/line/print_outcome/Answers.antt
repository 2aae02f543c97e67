use Rattle.std.proofs.Common.{inl, refl}
use Rattle.std.proofs.lemmas.Result.{err_from_is_err_and}
use Rattle.mime_tool.proofs.RunLemmas.Ends.{writes_same}
use Rattle.mime_tool.proofs.line.print_outcome.Goals as goal

pub returns-in_err-name : goal.returns-in_err-name
returns-in_err-name g c =
    let e = err_from_is_err_and c.from_residual.result c.from_residual.ensures.1 in
    rw (e.1, e.2) (record { same_files = refl; same_setting = refl; sinks = inl (writes_same _ _ refl) })
