use Rattle.std.proofs.Common.{◌∙◌, inl, refl}
use Rattle.std.proofs.lemmas.Result.{err_from_is_err_and}
use Rattle.mime_tool.proofs.RunLemmas.Ends.{writes_nothing}
use Rattle.mime_tool.proofs.subjects.refuse_empty.Goals as goal

pub returns-in_err-why : goal.returns-in_err-why
returns-in_err-why g c =
    let e = err_from_is_err_and c.from_residual.result c.from_residual.ensures.1 in
    rw (e.1, e.2) (record {
      same_files = refl;
      same_setting = refl;
      sinks = inl (writes_nothing (g.D.Desk.state c.args.desk.now).sinks);
    })

pub returns : goal.returns
returns g c = rw (c.as_bytes.ensures.value, c.as_str.ensures.value ∙ c.in_ok-why.ensures.ok) at c.refuse.ensures
