use Rattle.std.proofs.Common.{◌≡◌, ◌≤◌, length, take}
use Rattle.std.specs.Vec.{vec_capacity, vec_len}
use Rattle.mime_lookup.specs.Heads.{AreLineHeads, AreNoneShorter}
use Rattle.mime_lookup.specs.TopLines.{plain_tops}
use Rattle.mime_lookup.proofs.indexed.heads.heads_of.Given as goal

abbrev pub invariant-loop-top : goal.invariant-loop-top
invariant-loop-top g l = record {
  headed : AreLineHeads l.lines.items (plain_tops (g.S.MagicLines.plain l.source) (take l.top-index l.top-items));
  none_shorter : AreNoneShorter l.shortest l.lines.items;
  many : vec_len l.lines ≡ l.top-index;
  room : length l.top-items ≤ vec_capacity l.lines;
}
