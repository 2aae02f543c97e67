use Rattle.std.proofs.Common.{◌∙◌, []}
use Rattle.std.proofs.lemmas.Result.{err_from_is_err_and}
use Rattle.mime_request.specs.Request.{plain_source}
use Rattle.mime_tool.specs.Environment.{known_environment}
use Rattle.mime_tool.specs.Check.{IsCheckOver}
use Rattle.mime_tool.proofs.RunLemmas.SourceCommands.{source_read, source_unread}
use Rattle.mime_tool.proofs.check.check.Goals as goal

pub returns-in_err-cache : goal.returns-in_err-cache
returns-in_err-cache g c =
    let e = err_from_is_err_and c.from_residual.result c.from_residual.ensures.1 in
    let read = c.in_err-cache.ensures in
    rw (e.1, e.2) (record {
      same_files = read.same_files;
      same_setting = read.same_setting;
      sinks = source_unread (g.D.Desk.state c.args.desk.now).stored (known_environment c.args.environment)
          (plain_source c.args.source.now) IsCheckOver [] _ _ _ read.sinks;
    })

pub returns : goal.returns
returns g c =
    let read = c.in_ok-cache.ensures in
    let told = rw (c.as_slice.ensures.value, c.path_of.ensures) at c.check_cache.ensures in
    record {
      same_files = told.same_files ∙ read.same_files;
      same_setting = told.same_setting ∙ read.same_setting;
      sinks = source_read (g.D.Desk.state c.args.desk.now).stored (known_environment c.args.environment)
          (plain_source c.args.source.now) IsCheckOver [] c.in_ok-cache.cache _ _ _ _
          read.sinks told.sinks;
    }
