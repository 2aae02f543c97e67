use Rattle.std.proofs.Common.{◌≡◌, ℕ, ◌+◌, ◌<◌, ◌≤◌, length, get_or}
use Rattle.mime_lookup.specs.LineBytes.{asked_bytes, owned_sum}
use Rattle.mime_lookup.specs.Tables.{Narrows, OthersFail, OwnsOthers}
use Rattle.mime_lookup.specs.TopLines.{plain_tops}
use Rattle.mime_lookup.proofs.indexed.first_line.among_others.Given as goal

abbrev pub invariant-loop-at : goal.invariant-loop-at
invariant-loop-at g l = record {
  within : l.at ≤ length l.others;
  narrows : Narrows (plain_tops (g.S.MagicLines.plain l.asked.source.now) l.asked.tops.now) l.asked.content.now l.asked.host l.fn.until l.first;
  fail : OthersFail (plain_tops (g.S.MagicLines.plain l.asked.source.now) l.asked.tops.now) l.asked.content.now l.asked.host l.others l.first l.at;
  nodes : l.meter.nodes ≡ l.fn.meter.nodes;
  bytes : (owner : ℕ → ℕ) (this end : ℕ) → OwnsOthers l.others owner this (length l.asked.tops.now)
      → (l.at < length l.others → get_or l.others l.at 0 < end)
      → l.meter.bytes ≤ l.fn.meter.bytes + l.at + owned_sum
      (asked_bytes (length l.asked.content.now) (plain_tops (g.S.MagicLines.plain l.asked.source.now) l.asked.tops.now)) owner this end;
}

abbrev pub decreases-loop-at : goal.decreases-loop-at
decreases-loop-at g l = l.at
