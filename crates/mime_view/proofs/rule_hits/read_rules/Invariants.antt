use Rattle.std.proofs.Common.{◌≡◌, ◌+◌, ◌*◌, ◌≤◌, take}
use Rattle.mime_view.specs.RuleHits.{AreRulesAt}
use Rattle.mime_view.proofs.rule_hits.read_rules.Given as goal

abbrev pub invariant-loop-hit : goal.invariant-loop-hit
invariant-loop-hit l = record {
  are : AreRulesAt l.counted (take l.hit-index l.hits) l.rules.items;
  nodes : l.meter.nodes ≡ l.fn.meter.nodes;
  bytes_rise : l.fn.meter.bytes ≤ l.meter.bytes;
  bytes : l.meter.bytes ≤ l.fn.meter.bytes + 256 * l.hit-index;
}
