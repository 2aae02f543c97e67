use Rattle.std.proofs.Common.{◌≡◌, true}
use Rattle.mime_tool.specs.Finish.{Writes}
use Rattle.mime_tool.specs.Names.{TakesBytes, has_no_zero, left_in}
use Rattle.mime_tool.specs.Run.{silent}
use Rattle.mime_tool.proofs.names.next_name.Given as goal

-- what is taken of the list is the name so far, in which there is no zero byte
abbrev pub invariant-loop : goal.invariant-loop
invariant-loop g l = record {
  same_files : (g.D.Desk.state l.desk).stored ≡ (g.D.Desk.state l.initial.desk).stored;
  same_setting : (g.D.Desk.state l.desk).setting ≡ (g.D.Desk.state l.initial.desk).setting;
  handed_on : Writes (g.D.Desk.state l.initial.desk).sinks (g.D.Desk.state l.desk).sinks silent;
  free : has_no_zero l.name.items ≡ true;
  taken : TakesBytes (left_in g.R.Read.remaining g.R.Content.health l.initial.names) l.name.items
      (left_in g.R.Read.remaining g.R.Content.health l.names);
}
