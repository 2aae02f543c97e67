use Rattle.std.proofs.Common.{◌∙◌, []}
use Rattle.std.proofs.lemmas.Result.{err_from_is_err_and}
use Rattle.mime_request.specs.Request.{plain_source}
use Rattle.mime_tool.specs.Environment.{known_environment}
use Rattle.mime_tool.specs.IsA.{IsAnswerBy, IsAnswerOver}
use Rattle.mime_tool.proofs.RunLemmas.Questions.{data_read, data_unread}
use Rattle.mime_tool.proofs.is_a.is_a_by.Goals as goal

pub returns-in_err-given : goal.returns-in_err-given
returns-in_err-given g c =
    let e = err_from_is_err_and c.from_residual.result c.from_residual.ensures.1 in
    let read = c.in_err-given.ensures in
    rw (e.1, e.2) (record {
      same_files = read.same_files;
      same_setting = read.same_setting;
      sinks = data_unread (g.D.Desk.state c.args.desk.now).stored (known_environment c.args.environment)
          (λ path. IsAnswerOver path c.args.kind.now c.args.base.now) (IsAnswerBy c.args.kind.now c.args.base.now) []
          (plain_source c.args.source.now) _ _ _ read.sinks;
    })

pub returns : goal.returns
returns g c =
    let read = c.in_ok-given.ensures in
    let told = c.answer.ensures in
    record {
      same_files = told.same_files ∙ read.same_files;
      same_setting = told.same_setting ∙ read.same_setting;
      sinks = data_read (g.D.Desk.state c.args.desk.now).stored (known_environment c.args.environment)
          (λ path. IsAnswerOver path c.args.kind.now c.args.base.now) (IsAnswerBy c.args.kind.now c.args.base.now) []
          (plain_source c.args.source.now) c.in_ok-given.given _ _ _ _ read.sinks told.sinks;
    }
