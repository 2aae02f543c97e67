use Rattle.std.proofs.Common.{◌∙◌}
use Rattle.std.proofs.lemmas.Result.{err_from_is_err_and}
use Rattle.clap.specs.Walk.{texts}
use Rattle.mime_request.specs.Request.{plain_source}
use Rattle.mime_tool.specs.Environment.{known_environment}
use Rattle.mime_tool.specs.Explain.{IsExplainOver}
use Rattle.mime_tool.specs.Words.{names_of}
use Rattle.mime_tool.proofs.RunLemmas.SourceCommands.{source_read, source_unread}
use Rattle.mime_tool.proofs.explain.explain.Goals as goal

pub returns-in_err-cache : goal.returns-in_err-cache
returns-in_err-cache g c =
    let e = err_from_is_err_and c.from_residual.result c.from_residual.ensures.1 in
    let read = c.in_err-cache.ensures in
    let stored = (g.D.Desk.state c.args.desk.now).stored in
    rw (e.1, e.2) (record {
      same_files = read.same_files;
      same_setting = read.same_setting;
      sinks = source_unread stored (known_environment c.args.environment) (plain_source c.args.source.now)
          (IsExplainOver stored c.args.options) (names_of c.args.raws.now (texts c.args.files.now)) _ _ _ read.sinks;
    })

pub returns : goal.returns
returns g c =
    let read = c.in_ok-cache.ensures in
    let told = rw (c.as_slice.ensures.value, c.path_of.ensures, read.same_files) at c.explain_by.ensures in
    let stored = (g.D.Desk.state c.args.desk.now).stored in
    record {
      same_files = told.same_files ∙ read.same_files;
      same_setting = told.same_setting ∙ read.same_setting;
      sinks = source_read stored (known_environment c.args.environment) (plain_source c.args.source.now)
          (IsExplainOver stored c.args.options) (names_of c.args.raws.now (texts c.args.files.now)) c.in_ok-cache.cache _ _ _ _
          read.sinks told.sinks;
    }
