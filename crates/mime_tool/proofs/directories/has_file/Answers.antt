use Rattle.std.proofs.Common.{◌<◌, ◌∙◌, Bor, List, ℕ, [], arith, length}
use Rattle.mime_tool.specs.Directories.{path_of}
use Rattle.mime_tool.specs.Files.{IsThere}
use Rattle.mime_tool.proofs.DirectoryLemmas.Passing.{none_more_at, one_at}
use Rattle.mime_tool.proofs.directories.has_file.Goals as goal

abbrev no_text : Bor (List ℕ)
no_text = record { ref_ptr = (0, 0); now = [] }

pub returns-then-branch-clause-has : goal.returns-then-branch-clause-has
returns-then-branch-clause-has g c =
    let lt : c.loop-name.name-index < length c.args.names.now = omega arith in
    let path = c.as_str.ensures.value ∙ c.in_ok-path.ensures in
    let stored = (g.D.Desk.state c.args.desk.now).stored in
    one_at (λ name. IsThere (stored (path_of c.args.directory.now name))) c.args.names.now c.loop-name.name-index no_text _ lt
    c.loop-name.invariant.1 (rw (path, c.loop-name.invariant.0) at c.in_ok-exists.ensures.there) c.if-branch.true

pub loop-name-preserved : goal.loop-name-preserved
loop-name-preserved g c =
    let lt : c.loop-name.name-index < length c.args.names.now = omega arith in
    let path = c.as_str.ensures.value ∙ c.in_ok-path.ensures in
    let stored = (g.D.Desk.state c.args.desk.now).stored in (
      c.in_ok-exists.ensures.stays ∙ c.loop-name.invariant.0,
      none_more_at (λ name. IsThere (stored (path_of c.args.directory.now name))) c.args.names.now c.loop-name.name-index no_text _ lt
          c.loop-name.invariant.1 (rw (path, c.loop-name.invariant.0) at c.in_ok-exists.ensures.there) c.if-branch.false,
    )
