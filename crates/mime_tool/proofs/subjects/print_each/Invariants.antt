use Rattle.std.proofs.Common.{◌≡◌, ℕ, Result}
use Rattle.mime_tool.specs.Finish.{Sinks}
use Rattle.mime_tool.specs.Line.{IsTypeLine}
use Rattle.mime_tool.specs.LineSteps.{IsOfSource, plain_lookup}
use Rattle.mime_tool.specs.Names.{left_in}
use Rattle.mime_tool.specs.declared.stop.Stop.{Stop}
use Rattle.mime_tool.proofs.AnswerLemmas.ListedNames.{EndsListed}
use Rattle.mime_tool.proofs.RunLemmas.Fronts.{raised}
use Rattle.mime_tool.proofs.subjects.print_each.Given as goal

-- what is done over the rest of the list is done over the whole
abbrev pub invariant-loop-number : goal.invariant-loop-number
invariant-loop-number g l =
    let IsOne = IsTypeLine (plain_lookup l.initial.prepared.lookup) (g.D.Desk.state l.initial.desk).stored in
    record {
      known : l.prepared.lookup ≡ l.initial.prepared.lookup;
      prepared : IsOfSource l.prepared;
      same_files : (g.D.Desk.state l.desk).stored ≡ (g.D.Desk.state l.initial.desk).stored;
      same_setting : (g.D.Desk.state l.desk).setting ≡ (g.D.Desk.state l.initial.desk).setting;
      rest : (r : Result ℕ Stop) (after : Sinks)
          → EndsListed IsOne l.list (left_in g.R.Read.remaining g.R.Content.health l.names) l.number (g.D.Desk.state l.desk).sinks after r
          → EndsListed IsOne l.list (left_in g.R.Read.remaining g.R.Content.health l.initial.names) 1
          (g.D.Desk.state l.initial.desk).sinks after (raised l.status r);
    }
