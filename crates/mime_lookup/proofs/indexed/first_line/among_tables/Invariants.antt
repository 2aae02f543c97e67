use Rattle.std.proofs.Common.{◌≡◌, ℕ, ◌+◌, ◌≤◌, length}
use Rattle.mime_lookup.specs.LineBytes.{tables_bytes}
use Rattle.mime_lookup.specs.Tables.{Narrows, OwnsLines, TablesFail}
use Rattle.mime_lookup.specs.TopLines.{plain_tops}
use Rattle.mime_lookup.proofs.indexed.first_line.among_tables.Given as goal

abbrev pub invariant-loop-table : goal.invariant-loop-table
invariant-loop-table g l = record {
  narrows : Narrows (plain_tops (g.S.MagicLines.plain l.asked.source.now) l.asked.tops.now) l.asked.content.now l.asked.host (length l.asked.tops.now) l.first;
  fail : TablesFail (plain_tops (g.S.MagicLines.plain l.asked.source.now) l.asked.tops.now) l.asked.content.now l.asked.host l.tables l.first l.table;
  nodes : l.meter.nodes ≡ l.fn.meter.nodes;
  bytes : (owner : ℕ → ℕ) → OwnsLines l.tables owner (length l.asked.tops.now) 0
      → l.meter.bytes ≤ l.fn.meter.bytes + length l.tables.places.items + tables_bytes (length l.asked.content.now)
      (plain_tops (g.S.MagicLines.plain l.asked.source.now) l.asked.tops.now) owner l.table;
}
