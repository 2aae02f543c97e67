use Rattle.std.proofs.Common.{◌∙◌}
use Rattle.std.proofs.lemmas.Result.{err_from_is_err_and}
use Rattle.mime_request.specs.Request.{plain_directories, plain_subjects}
use Rattle.mime_tool.specs.Environment.{known_environment}
use Rattle.mime_tool.specs.Plain.{AreTypeLines}
use Rattle.mime_tool.specs.Process.{given_by}
use Rattle.mime_tool.specs.Subjects.{names_in}
use Rattle.mime_tool.specs.Words.{named_subjects}
use Rattle.mime_tool.proofs.RunLemmas.Questions.{fitting_over, fitting_unloaded}
use Rattle.mime_tool.proofs.types.print_by_texts.Goals as goal

pub returns-in_err-database : goal.returns-in_err-database
returns-in_err-database g c =
    let e = err_from_is_err_and c.from_residual.result c.from_residual.ensures.1 in
    let load = c.in_err-database.ensures in
    let stored = (g.D.Desk.state c.args.desk.now).stored in
    let input = c.args.process.input in
    let subjects = named_subjects c.args.raws.now (plain_subjects c.args.subjects.now) in
    let given = given_by (g.I.Read.remaining input) (g.I.Content.health input) in
    rw (e.1, e.2) (record {
      same_files = load.same_files;
      same_setting = load.same_setting;
      sinks = fitting_unloaded stored (known_environment c.args.process.environment) (plain_directories c.args.directories.now)
          (AreTypeLines subjects stored given c.args.options) (names_in subjects stored given) _ _ _ load.sinks;
    })

pub returns : goal.returns
returns g c =
    let load = c.in_ok-database.ensures in
    let lines = c.print_over.ensures in
    let here = rw load.same_files at lines in
    let stored = (g.D.Desk.state c.args.desk.now).stored in
    let input = c.args.process.input in
    let subjects = named_subjects c.args.raws.now (plain_subjects c.args.subjects.now) in
    let given = given_by (g.I.Read.remaining input) (g.I.Content.health input) in
    record {
      same_files = lines.same_files ∙ load.same_files;
      same_setting = lines.same_setting ∙ load.same_setting;
      sinks = fitting_over stored (known_environment c.args.process.environment) (plain_directories c.args.directories.now)
          (AreTypeLines subjects stored given c.args.options) (names_in subjects stored given) c.in_ok-database.database _ _ _ _ load.sinks
          here.sinks;
    }
