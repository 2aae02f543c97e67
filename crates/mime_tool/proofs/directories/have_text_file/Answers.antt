use Rattle.std.proofs.Common.{◌<◌, ◌∙◌, Bor, List, ℕ, [], arith, length}
use Rattle.mime_tool.specs.Directories.{HasFile, text_names}
use Rattle.mime_tool.proofs.DirectoryLemmas.Passing.{none_more_at, one_at}
use Rattle.mime_tool.proofs.directories.have_text_file.Goals as goal

abbrev no_text : Bor (List ℕ)
no_text = record { ref_ptr = (0, 0); now = [] }

pub returns-then-branch-clause-has : goal.returns-then-branch-clause-has
returns-then-branch-clause-has g c =
    let lt : c.loop-directory.directory-index < length c.args.directories.now = omega arith in
    let stored = (g.D.Desk.state c.args.desk.now).stored in
    one_at (HasFile stored text_names) c.args.directories.now c.loop-directory.directory-index no_text _ lt c.loop-directory.invariant.1
    (rw c.loop-directory.invariant.0 at c.in_ok-has_file.ensures.has) c.if-branch.true

pub loop-directory-preserved : goal.loop-directory-preserved
loop-directory-preserved g c =
    let lt : c.loop-directory.directory-index < length c.args.directories.now = omega arith in
    let stored = (g.D.Desk.state c.args.desk.now).stored in (
      c.in_ok-has_file.ensures.stays ∙ c.loop-directory.invariant.0,
      none_more_at (HasFile stored text_names) c.args.directories.now c.loop-directory.directory-index no_text _ lt c.loop-directory.invariant.1
          (rw c.loop-directory.invariant.0 at c.in_ok-has_file.ensures.has) c.if-branch.false,
    )
