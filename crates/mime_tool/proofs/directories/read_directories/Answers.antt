use Rattle.std.proofs.Common.{◌<◌, Bor, List, ℕ, [], arith, length}
use Rattle.std.proofs.lemmas.Result.{err_from_is_err_and}
use Rattle.mime_tool.proofs.DirectoryLemmas.DirectoryLoops.{reads_full_at, reads_more_at, reads_none, reads_stop_at}
use Rattle.mime_tool.proofs.directories.read_directories.Goals as goal

abbrev no_text : Bor (List ℕ)
no_text = record { ref_ptr = (0, 0); now = [] }

pub loop-directory-init : goal.loop-directory-init
loop-directory-init g c = reads_none (g.D.Desk.state c.args.desk.now) c.new-dirs.result c.new-dirs.ensures.items

pub returns-in_err-dir : goal.returns-in_err-dir
returns-in_err-dir g c =
    let lt : c.loop-directory.directory-index < length c.args.directories.now = omega arith in
    let e = err_from_is_err_and c.from_residual.result c.from_residual.ensures.1 in
    rw (e.1, e.2) (reads_stop_at c.args.directories.now c.loop-directory.directory-index no_text lt _ _ _ _ _ c.loop-directory.invariant
    c.in_err-dir.ensures)

pub returns-in_err-push : goal.returns-in_err-push
returns-in_err-push g c =
    let lt : c.loop-directory.directory-index < length c.args.directories.now = omega arith in
    let e = err_from_is_err_and c.from_residual-in_err-push.result c.from_residual-in_err-push.ensures.1 in
    rw (e.1, e.2) (reads_full_at c.args.directories.now c.loop-directory.directory-index no_text lt _ _ _ _ c.in_ok-dir.dir
    c.loop-directory.invariant c.in_ok-dir.ensures)

pub loop-directory-preserved : goal.loop-directory-preserved
loop-directory-preserved g c =
    let lt : c.loop-directory.directory-index < length c.args.directories.now = omega arith in
    reads_more_at c.args.directories.now c.loop-directory.directory-index no_text lt _ _ _ _ _ c.in_ok-dir.dir c.in_ok-push.ensures.items
    c.loop-directory.invariant c.in_ok-dir.ensures
