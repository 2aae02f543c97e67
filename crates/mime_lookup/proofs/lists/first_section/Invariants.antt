use Rattle.std.proofs.Common.{◌≡◌, ◌+◌, ◌≤◌, drop, length}
use Rattle.mime_base.specs.Magic.Holds.{first_magic}
use Rattle.mime_base.specs.Magic.{plain_sections}
use Rattle.mime_lookup.proofs.IndexLemmas.TriedLines.{sections_bytes}
use Rattle.mime_lookup.proofs.lists.first_section.Given as goal

abbrev pub invariant-loop-section : goal.invariant-loop-section
invariant-loop-section l = record {
  left :
      first_magic (plain_sections l.sections) l.content l.fn.host
      ≡ first_magic (plain_sections (drop l.section-index l.sections)) l.content l.fn.host;
  nodes : l.meter.nodes ≡ l.initial.meter.nodes;
  bytes :
      l.meter.bytes + sections_bytes (length l.content) (drop l.section-index l.sections)
      ≤ l.initial.meter.bytes + sections_bytes (length l.content) l.sections;
}
