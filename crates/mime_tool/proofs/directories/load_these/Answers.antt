use Rattle.std.proofs.Common.{option_map}
use Rattle.std.proofs.lemmas.Result.{err_from_is_err_and}
use Rattle.clap.specs.Walk.{texts}
use Rattle.mime_tool.proofs.DirectoryLemmas.Merges.{database_noticed, database_unnoticed}
use Rattle.mime_tool.proofs.directories.load_these.Goals as goal

pub returns-in_err-notice_missing : goal.returns-in_err-notice_missing
returns-in_err-notice_missing g c =
    let e = err_from_is_err_and c.from_residual.result c.from_residual.ensures.1 in
    rw (e.1, e.2) (database_unnoticed (option_map (λ s. s.now) c.args.kept) (texts c.args.directories.now) _ _ _ c.in_err-notice_missing.ensures)

pub returns : goal.returns
returns g c =
    database_noticed (option_map (λ s. s.now) c.args.kept) (texts c.args.directories.now) _ _ _ tt _ c.in_ok-notice_missing.ensures c.merge_these.ensures
