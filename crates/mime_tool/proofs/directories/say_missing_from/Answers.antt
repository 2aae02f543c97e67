use Rattle.std.proofs.Common.{◌∙◌, option_map}
use Rattle.std.proofs.lemmas.Result.{err_from_is_err_and}
use Rattle.clap.specs.Walk.{texts}
use Rattle.mime_tool.proofs.DirectoryLemmas.Missing.{missing_nothing, missing_said}
use Rattle.mime_tool.proofs.directories.say_missing_from.Goals as goal

pub returns-in_err-beside : goal.returns-in_err-beside
returns-in_err-beside g c =
    let e = err_from_is_err_and c.from_residual.result c.from_residual.ensures.1 in
    rw (e.1, e.2) (missing_nothing c.args.first.now (texts c.args.directories.now) _ _ c.in_err-beside.ensures.stays)

pub returns-in_err-why : goal.returns-in_err-why
returns-in_err-why g c =
    let e = err_from_is_err_and c.from_residual-in_err-why.result c.from_residual-in_err-why.ensures.1 in
    rw (e.1, e.2) (missing_nothing c.args.first.now (texts c.args.directories.now) _ _ c.in_ok-beside.ensures.stays)

pub returns-in_err-dirs : goal.returns-in_err-dirs
returns-in_err-dirs g c =
    let e = err_from_is_err_and c.from_residual-in_err-dirs.result c.from_residual-in_err-dirs.ensures.1 in
    rw (e.1, e.2) (missing_nothing c.args.first.now (texts c.args.directories.now) _ _ c.in_ok-beside.ensures.stays)

pub returns : goal.returns
returns g c =
    missing_said c.args.first.now c.args.directories.now (option_map (λ s. s.now) c.in_ok-beside.beside) c.as_bytes.result.now
    c.as_str.result.now _ _ _ _ c.in_ok-beside.ensures.stays c.in_ok-beside.ensures.first
    (c.as_bytes.ensures.value ∙ c.in_ok-dirs.ensures.ok) (c.as_str.ensures.value ∙ c.in_ok-why.ensures) c.report.ensures
