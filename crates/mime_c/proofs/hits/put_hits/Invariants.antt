use Rattle.std.proofs.Common.{◌≡◌, length, map, take, drop}
use Rattle.mime_c.specs.Hits.{given_hits, plain_given}
use Rattle.mime_c.proofs.hits.put_hits.Given as goal

abbrev pub invariant-loop-i : goal.invariant-loop-i
invariant-loop-i l = record {
  size : length l.array ≡ length l.initial.array;
  written : map plain_given (take l.i l.array) ≡ take l.i (given_hits l.found);
  rest : drop l.i l.array ≡ drop l.i l.initial.array;
}
