use Rattle.std.proofs.Common.{Bool, refl}
use Rattle.std.proofs.lemmas.Result.{err_from_is_err_and}
use Rattle.mime_tool.specs.IsA.{IsAnswerBy, IsAnswerOf, IsAnswerOver, IsSaid, IsSaidBy, RefusesPairs, answer_run}
use Rattle.mime_tool.proofs.RunLemmas.AnswersByData.{says_by}
use Rattle.mime_tool.proofs.RunLemmas.Questions.{data_asked, data_unasked}
use Rattle.mime_tool.proofs.is_a.answer.Goals as goal

pub returns-in_err-yes : goal.returns-in_err-yes
returns-in_err-yes g c =
    let e = err_from_is_err_and c.from_residual.result c.from_residual.ensures.1 in
    let kind = c.args.kind.now in
    let base = c.args.base.now in
    rw (e.1, e.2) (record {
      same_files = refl;
      same_setting = refl;
      sinks = data_unasked Bool RefusesPairs (λ cache. IsSaid cache kind base) (λ b. IsSaidBy b kind base)
          (λ cache. IsAnswerOf (IsSaid cache kind base)) (IsAnswerBy kind base) c.args.given.now _ _ c.in_err-yes.ensures;
    })

pub returns : goal.returns
returns g c =
    let told = c.print_answer.ensures in
    let kind = c.args.kind.now in
    let base = c.args.base.now in
    let yes = c.in_ok-yes.yes in
    record {
      same_files = told.same_files;
      same_setting = told.same_setting;
      sinks = data_asked (λ path. IsAnswerOver path kind base) (IsAnswerBy kind base) c.args.given.now (answer_run yes) _ _ _
          (says_by kind base c.args.given.now yes c.in_ok-yes.ensures) told.sinks;
    }
