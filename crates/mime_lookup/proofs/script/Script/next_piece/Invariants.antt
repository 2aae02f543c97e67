use Rattle.std.proofs.Common.{◌≡◌, ◌++◌, ◌-◌, drop, take, length}
use Rattle.mime_lookup.specs.Script.{are_pieces, bytes_in, tally_in}
use Rattle.mime_lookup.proofs.script.Script.next_piece.Given as goal

abbrev pub invariant-loop-buffer : goal.invariant-loop-buffer
invariant-loop-buffer l = record {
  bytes :
      l.self.piece.now ++ bytes_in (drop l.self.met l.self.steps.now)
      ≡ l.initial.self.piece.now ++ bytes_in (drop l.initial.self.met l.initial.self.steps.now);
  pieces : are_pieces (drop l.self.met l.self.steps.now) ≡ are_pieces (drop l.initial.self.met l.initial.self.steps.now);
  tally : tally_in (take l.self.met l.self.steps.now) ≡ tally_in (take l.initial.self.met l.initial.self.steps.now);
}

abbrev pub decreases-loop-buffer : goal.decreases-loop-buffer
decreases-loop-buffer l = length l.self.steps.now - l.self.met
