use Rattle.std.proofs.Common.{◌≡◌, ◌≤◌, ◌-◌, vec_len}
use Rattle.std.specs.Io.KnownBytes.{Consumes}
use Rattle.mime_lookup.specs.Content.{Interrupts, broken, sound}
use Rattle.mime_lookup.proofs.reading.read_front.Given as goal

abbrev pub invariant-loop-block : goal.invariant-loop-block
invariant-loop-block g l = record {
  read : l.read ≡ vec_len l.front;
  limited : vec_len l.front ≤ l.limit;
  consumed : Consumes (g.R.Read.remaining l.initial.reader) (g.R.Read.remaining l.reader) l.front.items;
  goes : Interrupts (g.R.Content.tally l.initial.reader) (g.R.Content.tally l.reader) (1000 - l.retries);
  sound : g.R.Content.health l.initial.reader ≡ sound → g.R.Content.health l.reader ≡ sound;
  broken : g.R.Content.health l.initial.reader ≡ broken → (g.R.Content.health l.reader ≡ broken) × (vec_len l.front ≡ 0);
  fewer : l.retries ≤ 1000;
}

abbrev pub decreases-loop-block : goal.decreases-loop-block
decreases-loop-block g l = l.limit - vec_len l.front
