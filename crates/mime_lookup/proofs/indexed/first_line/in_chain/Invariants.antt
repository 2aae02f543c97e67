use Rattle.std.proofs.Common.{◌≡◌, ◌⊎◌, ℕ, ◌+◌, ◌-◌, ◌<◌, ◌≤◌, length}
use Rattle.mime_lookup.specs.LineBytes.{asked_bytes, owned_sum}
use Rattle.mime_lookup.specs.Tables.{FailsLine, LeadsChain, LeadsOwn}
use Rattle.mime_lookup.specs.TopLines.{plain_tops}
use Rattle.mime_lookup.proofs.indexed.first_line.in_chain.Given as goal

abbrev pub invariant-loop-low : goal.invariant-loop-low
invariant-loop-low g l = record {
  low : l.low ≤ l.fn.until;
  left : (line steps : ℕ) → LeadsChain steps l.nexts 0 l.fn.named line → line < l.fn.until →
      FailsLine (plain_tops (g.S.MagicLines.plain l.asked.source.now) l.asked.tops.now) l.asked.content.now l.asked.host line ⊎ ((more : ℕ) × LeadsChain more l.nexts l.low l.link line);
  nodes : l.meter.nodes ≡ l.fn.meter.nodes;
  bytes : (owner : ℕ → ℕ) (this : ℕ) → LeadsOwn l.nexts owner this l.fn.named → ((line : ℕ) → l.link ≡ line + 1 → owner line ≡ this)
      × (l.meter.bytes ≤ l.fn.meter.bytes + owned_sum
      (asked_bytes (length l.asked.content.now) (plain_tops (g.S.MagicLines.plain l.asked.source.now) l.asked.tops.now)) owner this l.low);
}

abbrev pub decreases-loop-low : goal.decreases-loop-low
decreases-loop-low g l = l.fn.until - l.low
