use Rattle.std.proofs.Common.{◌<◌, ◌∙◌, Bor, List, ℕ, [], arith, length}
use Rattle.mime_tool.specs.Directories.{globs2_beside}
use Rattle.mime_tool.specs.Files.{IsThere}
use Rattle.mime_tool.proofs.DirectoryLemmas.Passing.{first_at, no_first_at}
use Rattle.mime_tool.proofs.directories.first_beside.Goals as goal

abbrev no_text : Bor (List ℕ)
no_text = record { ref_ptr = (0, 0); now = [] }

pub returns-then-branch-clause-first : goal.returns-then-branch-clause-first
returns-then-branch-clause-first g c =
    let lt : c.loop-directory.directory-index < length c.args.directories.now = omega arith in
    let stored = (g.D.Desk.state c.args.desk.now).stored in
    first_at (λ dir. IsThere (stored (globs2_beside dir))) c.args.directories.now c.loop-directory.directory-index no_text _ lt
    c.loop-directory.invariant.1 (rw c.loop-directory.invariant.0 at c.in_ok-is_beside.ensures.there) c.if-branch.true

pub loop-directory-preserved : goal.loop-directory-preserved
loop-directory-preserved g c =
    let lt : c.loop-directory.directory-index < length c.args.directories.now = omega arith in
    let stored = (g.D.Desk.state c.args.desk.now).stored in (
      c.in_ok-is_beside.ensures.stays ∙ c.loop-directory.invariant.0,
      no_first_at (λ dir. IsThere (stored (globs2_beside dir))) c.args.directories.now c.loop-directory.directory-index no_text _ lt
          c.loop-directory.invariant.1 (rw c.loop-directory.invariant.0 at c.in_ok-is_beside.ensures.there) c.if-branch.false,
    )
