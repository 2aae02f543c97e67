use Rattle.std.proofs.Common.{◌≡◌, ◌<◌, ◌≤◌, length}
use Rattle.mime_lookup.specs.Pairs.{NotesPairs}
use Rattle.mime_lookup.proofs.indexed.noted_pairs.note_far.Given as goal

abbrev pub invariant-loop-place : goal.invariant-loop-place
invariant-loop-place l = record {
  size : length l.places ≡ 2296;
  notes : NotesPairs l.place l.places l.bytes;
  front : l.place ≤ 288;
  inside : 0 < l.place → l.place < length l.bytes;
}

abbrev pub decreases-loop-place : goal.decreases-loop-place
decreases-loop-place l = l.place
