use Rattle.std.proofs.Common.{option_map}
use Rattle.std.proofs.lemmas.Result.{err_from_is_err_and}
use Rattle.clap.specs.Walk.{texts}
use Rattle.mime_tool.proofs.DirectoryLemmas.Notices.{missing_over, missing_unsaid}
use Rattle.mime_tool.proofs.directories.say_missing_over.Goals as goal

pub returns-in_err-say_missing : goal.returns-in_err-say_missing
returns-in_err-say_missing g c =
    let e = err_from_is_err_and c.from_residual.result c.from_residual.ensures.1 in
    rw (e.1, e.2) (missing_unsaid (option_map (λ s. s.now) c.args.kept) (texts c.args.directories.now) _ _ _ c.in_err-say_missing.ensures)

pub returns : goal.returns
returns g c =
    missing_over (option_map (λ s. s.now) c.args.kept) (texts c.args.directories.now) _ _ _ tt _ c.in_ok-say_missing.ensures c.keep.ensures
