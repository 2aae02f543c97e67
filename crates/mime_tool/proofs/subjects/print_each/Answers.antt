use Rattle.std.proofs.Common.{◌∙◌, ℕ, Err, inl, Ok, Result, subst}
use Rattle.std.proofs.Math.Nat.{max-zero}
use Rattle.std.proofs.lemmas.Result.{err_from_is_err_and}
use Rattle.mime_tool.specs.Line.{IsTypeLine}
use Rattle.mime_tool.specs.LineSteps.{plain_lookup}
use Rattle.mime_tool.specs.Names.{left_in}
use Rattle.mime_tool.specs.declared.stop.Stop.{Stop}
use Rattle.mime_tool.specs.declared.stop.Stop.TheVariants as stop
use Rattle.mime_tool.proofs.AnswerLemmas.ListedNames.{EndsListed, listed_ended, named_more, named_stopped}
use Rattle.mime_tool.proofs.AnswerLemmas.UnreadLists.{listed_unnamed}
use Rattle.mime_tool.proofs.RunLemmas.Ends.{writes_nothing}
use Rattle.mime_tool.proofs.RunLemmas.Fronts.{raised, raised-raised}
use Rattle.mime_tool.proofs.subjects.print_each.Goals as goal

pub returns-in_err-name : goal.returns-in_err-name
returns-in_err-name g c =
    let e = err_from_is_err_and c.from_residual.result c.from_residual.ensures.1 in
    let before = c.loop-number.invariant in
    let named = c.in_err-name.ensures in
    let a = (g.D.Desk.state c.args.desk.now).sinks in
    let d = (g.D.Desk.state c.next_name.new.desk).sinks in
    let IsOne = IsTypeLine (plain_lookup c.args.prepared.now.lookup) (g.D.Desk.state c.args.desk.now).stored in
    rw (e.1, e.2) (record {
      same_files = named.same_files ∙ before.same_files;
      same_setting = named.same_setting ∙ before.same_setting;
      sinks = before.rest (Err c.in_err-name.field-0.0) d (listed_unnamed IsOne c.args.list.now
          (left_in g.R.Read.remaining g.R.Content.health c.loop-number.names)
          (left_in g.R.Read.remaining g.R.Content.health c.next_name.new.names) c.loop-number.number _ d _ named.sinks);
    })

pub returns-in_default : goal.returns-in_default
returns-in_default g c =
    let before = c.loop-number.invariant in
    let named = rw c.in_default.is at c.in_ok-name.ensures in
    let a = (g.D.Desk.state c.args.desk.now).sinks in
    let d = (g.D.Desk.state c.next_name.new.desk).sinks in
    let IsOne = IsTypeLine (plain_lookup c.args.prepared.now.lookup) (g.D.Desk.state c.args.desk.now).stored in
    let ended = before.rest (Ok 0) d (listed_ended IsOne c.args.list.now _ c.loop-number.number _ _ named.sinks.1 named.sinks.0) in
    record {
      same_files = named.same_files ∙ before.same_files;
      same_setting = named.same_setting ∙ before.same_setting;
      sinks = subst (λ (s : ℕ). EndsListed IsOne c.args.list.now (left_in g.R.Read.remaining g.R.Content.health c.args.names.now) 1 a d (Ok s))
          (max-zero c.loop-number.status) ended;
    }

pub returns-in_err-print_name : goal.returns-in_err-print_name
returns-in_err-print_name g c =
    let e = err_from_is_err_and c.from_residual-in_err-print_name.result c.from_residual-in_err-print_name.ensures.1 in
    let before = c.loop-number.invariant in
    let named = rw c.in-Some.is at c.in_ok-name.ensures in
    let same = named.same_files ∙ before.same_files in
    let line = rw (before.known, same, c.as_slice.ensures.value) at c.in_err-print_name.ensures.line in
    let a = (g.D.Desk.state c.args.desk.now).sinks in
    let d = (g.D.Desk.state c.print_name.new.desk).sinks in
    let IsOne = IsTypeLine (plain_lookup c.args.prepared.now.lookup) (g.D.Desk.state c.args.desk.now).stored in
    rw (e.1, e.2) (record {
      same_files = line.same_files ∙ same;
      same_setting = line.same_setting ∙ (named.same_setting ∙ before.same_setting);
      sinks = before.rest (Err c.in_err-print_name.field-0.0) d (named_stopped IsOne c.args.list.now
          (left_in g.R.Read.remaining g.R.Content.health c.loop-number.names)
          (left_in g.R.Read.remaining g.R.Content.health c.next_name.new.names) c.loop-number.number c.in-Some.name.items
          (g.D.Desk.state c.loop-number.desk).sinks (g.D.Desk.state c.next_name.new.desk).sinks d c.in_err-print_name.field-0.0 named.sinks line.sinks);
    })

pub loop-number-preserved : goal.loop-number-preserved
loop-number-preserved g c =
    let before = c.loop-number.invariant in
    let named = rw c.in-Some.is at c.in_ok-name.ensures in
    let same = named.same_files ∙ before.same_files in
    let line = rw (before.known, same, c.as_slice.ensures.value) at c.in_ok-print_name.ensures.line in
    let a = (g.D.Desk.state c.args.desk.now).sinks in
    let IsOne = IsTypeLine (plain_lookup c.args.prepared.now.lookup) (g.D.Desk.state c.args.desk.now).stored in
    rw c.max-status.ensures (record {
      known = c.print_name.ensures.lookup ∙ before.known;
      prepared = c.print_name.ensures.prepared;
      same_files = line.same_files ∙ same;
      same_setting = line.same_setting ∙ (named.same_setting ∙ before.same_setting);
      rest = λ r after p.
          let left = rw (c.take_back.ensures) at p in
          let more = named_more IsOne c.args.list.now (left_in g.R.Read.remaining g.R.Content.health c.loop-number.names)
          (left_in g.R.Read.remaining g.R.Content.health c.next_name.new.names) c.loop-number.number c.in-Some.name.items
          (g.D.Desk.state c.loop-number.desk).sinks (g.D.Desk.state c.next_name.new.desk).sinks (g.D.Desk.state c.print_name.new.desk).sinks after
          c.in_ok-print_name.field-0 r named.sinks line.sinks left in
          subst (λ (s : Result ℕ Stop). EndsListed IsOne c.args.list.now
          (left_in g.R.Read.remaining g.R.Content.health c.args.names.now) 1 a after s)
          (raised-raised c.loop-number.status c.in_ok-print_name.field-0 r)
          (before.rest (raised c.in_ok-print_name.field-0 r) after more);
    })

pub returns : goal.returns
returns g c =
    let before = c.loop-number.invariant in
    let a = (g.D.Desk.state c.args.desk.now).sinks in
    let d = (g.D.Desk.state c.loop-number.desk).sinks in
    let IsOne = IsTypeLine (plain_lookup c.args.prepared.now.lookup) (g.D.Desk.state c.args.desk.now).stored in
    record {
      same_files = before.same_files;
      same_setting = before.same_setting;
      sinks = before.rest (Err stop.OutOfMemory) d (inl (writes_nothing d));
    }
