use Rattle.std.proofs.Common.{◌≡◌, ◌≤◌, ◌-◌}
use Rattle.std.specs.Io.KnownBytes.{Keeps}
use Rattle.mime_lookup.specs.Content.{Interrupts, broken, sound}
use Rattle.mime_lookup.proofs.reading.read_block.Given as goal

abbrev pub invariant-loop-count : goal.invariant-loop-count
invariant-loop-count g l = record {
  kept : Keeps (g.R.Read.remaining l.initial.reader) (g.R.Read.remaining l.reader);
  goes : Interrupts (g.R.Content.tally l.initial.reader) (g.R.Content.tally l.reader) (l.initial.retries - l.retries);
  sound : g.R.Content.health l.initial.reader ≡ sound → g.R.Content.health l.reader ≡ sound;
  broken : g.R.Content.health l.initial.reader ≡ broken → g.R.Content.health l.reader ≡ broken;
  fewer : l.retries ≤ l.initial.retries;
}

abbrev pub decreases-loop-count : goal.decreases-loop-count
decreases-loop-count g l = l.retries
