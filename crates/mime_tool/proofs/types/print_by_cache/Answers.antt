use Rattle.std.proofs.Common.{◌∙◌}
use Rattle.std.proofs.lemmas.Result.{err_from_is_err_and}
use Rattle.mime_request.specs.Request.{plain_source, plain_subjects}
use Rattle.mime_tool.specs.Environment.{known_environment}
use Rattle.mime_tool.specs.Types.{AreLinesBy}
use Rattle.mime_tool.proofs.RunLemmas.SourceCommands.{source_read, source_unread}
use Rattle.mime_tool.specs.Process.{given_by}
use Rattle.mime_tool.specs.Subjects.{names_in}
use Rattle.mime_tool.specs.Words.{named_subjects}
use Rattle.mime_tool.proofs.types.print_by_cache.Goals as goal

pub returns-in_err-cache : goal.returns-in_err-cache
returns-in_err-cache g c =
    let e = err_from_is_err_and c.from_residual.result c.from_residual.ensures.1 in
    let read = c.in_err-cache.ensures in
    let stored = (g.D.Desk.state c.args.desk.now).stored in
    let input = c.args.process.input in
    let subjects = named_subjects c.args.raws.now (plain_subjects c.args.subjects.now) in
    let given = given_by (g.I.Read.remaining input) (g.I.Content.health input) in
    rw (e.1, e.2) (record {
      same_files = read.same_files;
      same_setting = read.same_setting;
      sinks = source_unread stored (known_environment c.args.process.environment) (plain_source c.args.source.now)
          (AreLinesBy subjects stored given c.args.options) (names_in subjects stored given) _ _ _ read.sinks;
    })

pub returns : goal.returns
returns g c =
    let read = c.in_ok-cache.ensures in
    let lines = rw (c.as_slice-bytes.ensures.value, c.asked_order.ensures, c.path_of-path.ensures, read.same_files) at c.print_subjects.ensures in
    let stored = (g.D.Desk.state c.args.desk.now).stored in
    let input = c.args.process.input in
    let subjects = named_subjects c.args.raws.now (plain_subjects c.args.subjects.now) in
    let given = given_by (g.I.Read.remaining input) (g.I.Content.health input) in
    record {
      same_files = lines.same_files ∙ read.same_files;
      same_setting = lines.same_setting ∙ read.same_setting;
      sinks = source_read stored (known_environment c.args.process.environment) (plain_source c.args.source.now)
          (AreLinesBy subjects stored given c.args.options) (names_in subjects stored given) c.in_ok-cache.cache _ _ _ _ read.sinks lines.sinks;
    }
