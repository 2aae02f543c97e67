use Rattle.std.proofs.Common.{◌≡◌, ◌≤◌, length}
use Rattle.mime_base.specs.Magic.Places.{NotesFrom}
use Rattle.mime_base.proofs.magic.content.NotedContent.new.Given as goal

abbrev pub invariant-loop-place : goal.invariant-loop-place
invariant-loop-place l = record {
  size : length l.noted ≡ 256;
  notes : NotesFrom l.place l.noted l.bytes;
  front : l.place ≤ 288;
  inside : l.place ≤ length l.bytes;
}

abbrev pub decreases-loop-place : goal.decreases-loop-place
decreases-loop-place l = l.place
