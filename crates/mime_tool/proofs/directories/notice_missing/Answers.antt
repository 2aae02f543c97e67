use Rattle.std.proofs.Common.{option_map}
use Rattle.std.proofs.lemmas.Result.{err_from_is_err_and}
use Rattle.clap.specs.Walk.{texts}
use Rattle.mime_tool.proofs.DirectoryLemmas.Notices.{noticed_none, noticed_nothing, noticed_one}
use Rattle.mime_tool.proofs.directories.notice_missing.Goals as goal

pub returns-in_err-have_text_file : goal.returns-in_err-have_text_file
returns-in_err-have_text_file g c =
    let e = err_from_is_err_and c.from_residual.result c.from_residual.ensures.1 in
    rw (e.1, e.2) (noticed_nothing (option_map (λ s. s.now) c.args.kept) (texts c.args.directories.now) _ _
    c.in_err-have_text_file.ensures.stays)

pub returns-then-branch : goal.returns-then-branch
returns-then-branch g c =
    noticed_one (option_map (λ s. s.now) c.args.kept) (texts c.args.directories.now) _ _ c.in_ok-have_text_file.ensures.stays
    (rw c.if-branch.true at c.in_ok-have_text_file.ensures.has)

pub returns-else-branch : goal.returns-else-branch
returns-else-branch g c =
    noticed_none (option_map (λ s. s.now) c.args.kept) (texts c.args.directories.now) _ _ _ _ c.in_ok-have_text_file.ensures.stays
    (rw c.if-branch.false at c.in_ok-have_text_file.ensures.has) c.say_missing_over.ensures
