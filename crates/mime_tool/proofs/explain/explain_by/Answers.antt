use Rattle.std.proofs.Common.{inl, refl}
use Rattle.std.proofs.lemmas.Result.{err_from_is_err_and}
use Rattle.std.specs.Bool.{⊤}
use Rattle.clap.specs.Walk.{texts}
use Rattle.mime_tool.specs.Check.{RefusesToOpen}
use Rattle.mime_tool.specs.Explain.{IsExplainOver, IsExplainedOrNot}
use Rattle.mime_tool.specs.Words.{names_of}
use Rattle.mime_tool.proofs.ExplainLemmas.Runs.{files_refused}
use Rattle.mime_tool.proofs.RunLemmas.Programs.{ends_weaker}
use Rattle.mime_tool.proofs.explain.explain_by.Goals as goal

pub returns-in_err-open : goal.returns-in_err-open
returns-in_err-open g c =
    let e = err_from_is_err_and c.from_residual.result c.from_residual.ensures.1 in
    let bytes = c.args.bytes.now in
    let path = c.args.path.now in
    let stored = (g.D.Desk.state c.args.desk.now).stored in
    rw (e.1, e.2) (record {
      same_files = refl;
      same_setting = refl;
      sinks = files_refused (Unit {0}) path (RefusesToOpen bytes) (λ _. ⊤) (IsExplainedOrNot stored c.args.options path bytes)
          (names_of c.args.raws.now (texts c.args.files.now)) _ _ c.in_err-open.ensures;
    })

pub returns : goal.returns
returns g c =
    let bytes = c.args.bytes.now in
    let path = c.args.path.now in
    let stored = (g.D.Desk.state c.args.desk.now).stored in
    let told = c.explain_read.ensures in
    record {
      same_files = told.same_files;
      same_setting = told.same_setting;
      sinks = ends_weaker (IsExplainedOrNot stored c.args.options path bytes) (IsExplainOver stored c.args.options path bytes)
          (names_of c.args.raws.now (texts c.args.files.now)) _ _ _ (λ fs run is. inl is) told.sinks;
    }
