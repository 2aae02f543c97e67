use Rattle.std.proofs.Common.{◌≤◌, take, vec_len}
use Rattle.std.specs.Io.KnownBytes.{Consumes}
use Rattle.mime_tool.proofs.system.read_onto.Given as goal

abbrev pub invariant-loop : goal.invariant-loop
invariant-loop g l = record {
  within : l.filled ≤ vec_len l.bytes;
  read : Consumes (g.R.Read.remaining l.initial.file) (g.R.Read.remaining l.file) (take l.filled l.bytes.items);
  limited : l.filled ≤ l.limit;
}
