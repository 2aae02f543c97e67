use Rattle.std.proofs.Common.{◌<◌, ◌∙◌, Bor, List, ℕ, [], length, arith}
use Rattle.std.proofs.lemmas.Result.{err_from_is_err_and}
use Rattle.mime_tool.specs.ExplainSteps.{looks_of}
use Rattle.mime_tool.specs.Line.{IsTypeLine}
use Rattle.mime_tool.specs.Words.{name_of}
use Rattle.mime_tool.proofs.RunLemmas.Texts.{ends_more_at, ends_stop_at}
use Rattle.mime_tool.proofs.explain.print_files.Goals as goal

abbrev no_text : Bor (List ℕ)
no_text = record { ref_ptr = (0, 0); now = [] }

pub returns-in_err-print_file : goal.returns-in_err-print_file
returns-in_err-print_file g c =
    let lt : c.loop-file.file-index < length c.args.files.now = omega arith in
    let e = err_from_is_err_and c.from_residual.result c.from_residual.ensures.1 in
    let before = c.loop-file.invariant in
    let here = rw (before.same_files, c.name_of.ensures) at c.in_err-print_file.ensures in
    let stored = (g.D.Desk.state c.args.desk.now).stored in
    rw (e.1, e.2) (record {
      same_files = c.in_err-print_file.ensures.same_files ∙ before.same_files;
      same_setting = c.in_err-print_file.ensures.same_setting ∙ before.same_setting;
      sinks = ends_stop_at (name_of c.args.raws.now) (IsTypeLine (looks_of c.args.explaining) stored) c.args.files.now c.loop-file.file-index no_text lt _ _ _ _ _
          before.sinks here.sinks;
    })

pub loop-file-preserved : goal.loop-file-preserved
loop-file-preserved g c =
    let lt : c.loop-file.file-index < length c.args.files.now = omega arith in
    let before = c.loop-file.invariant in
    let line = c.in_ok-print_file.ensures in
    let here = rw (before.same_files, c.name_of.ensures) at line in
    let stored = (g.D.Desk.state c.args.desk.now).stored in
    rw c.max-status.ensures (record {
      same_files = line.same_files ∙ before.same_files;
      same_setting = line.same_setting ∙ before.same_setting;
      sinks = ends_more_at (name_of c.args.raws.now) (IsTypeLine (looks_of c.args.explaining) stored) c.args.files.now c.loop-file.file-index no_text lt _ _ _ _ _
          before.sinks here.sinks;
    })
