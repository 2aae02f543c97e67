use Rattle.std.proofs.Common.{◌≡◌}
use Rattle.std.specs.Io.KnownBytes.{Keeps}
use Rattle.mime_lookup.specs.Content.{broken, sound}
use Rattle.mime_tool.proofs.names.read_block.Given as goal

abbrev pub invariant-loop : goal.invariant-loop
invariant-loop g l = record {
  kept : Keeps (g.R.Read.remaining l.initial.reader) (g.R.Read.remaining l.reader);
  sound : g.R.Content.health l.initial.reader ≡ sound → g.R.Content.health l.reader ≡ sound;
  broken : g.R.Content.health l.initial.reader ≡ broken → g.R.Content.health l.reader ≡ broken;
}
