use Rattle.std.proofs.Common.{◌∙◌, subst, sym}
use Rattle.std.proofs.lemmas.Result.{err_from_is_err_and}
use Rattle.mime_tool.specs.Files.{as_list}
use Rattle.mime_tool.specs.Finish.{Sinks}
use Rattle.mime_tool.specs.Line.{IsTypeLine}
use Rattle.mime_tool.specs.LineSteps.{plain_lookup}
use Rattle.mime_tool.proofs.AnswerLemmas.ListedNames.{EndsListed}
use Rattle.mime_tool.proofs.AnswerLemmas.UnreadLists.{ends_opened, listed_unopened}
use Rattle.mime_tool.proofs.subjects.print_list.Goals as goal

pub returns-in_err-reader : goal.returns-in_err-reader
returns-in_err-reader g c =
    let e = err_from_is_err_and c.from_residual.result c.from_residual.ensures.1 in
    let opened = c.in_err-reader.ensures in
    let a = g.D.Desk.state c.args.desk.now in
    let b = g.D.Desk.state c.open_list.new.self in
    let IsOne = IsTypeLine (plain_lookup c.args.lookup) a.stored in
    let list = as_list (a.stored c.args.path.now) in
    rw (e.1, e.2, sym c.eq.ensures ∙ c.if-eq.false) (record {
      same_files = opened.same_files;
      same_setting = opened.same_setting;
      sinks = listed_unopened IsOne c.args.path.now g.D.Reader.Read.remaining g.D.Reader.Content.health list 1 a.sinks b.sinks _ opened.sinks;
    })

pub returns-in_ok-reader : goal.returns-in_ok-reader
returns-in_ok-reader g c =
    let opened = c.in_ok-reader.ensures in
    let printed = rw opened.same_files at c.print_names-else-eq.ensures in
    let a = g.D.Desk.state c.args.desk.now in
    let b = g.D.Desk.state c.open_list.new.self in
    let d = g.D.Desk.state c.print_names-else-eq.new.desk in
    let IsOne = IsTypeLine (plain_lookup c.args.lookup) a.stored in
    let path = c.args.path.now in
    let list = as_list (a.stored path) in
    let r = c.print_names-else-eq.result in
    rw (sym c.eq.ensures ∙ c.if-eq.false) (record {
      same_files = printed.same_files ∙ opened.same_files;
      same_setting = printed.same_setting ∙ opened.same_setting;
      sinks = subst (λ (from : Sinks). EndsListed IsOne path list 1 from d.sinks r) opened.sinks.0
          (ends_opened IsOne path g.D.Reader.Read.remaining g.D.Reader.Content.health c.in_ok-reader.reader list 1 b.sinks d.sinks r opened.sinks.1
          printed.sinks);
    })
