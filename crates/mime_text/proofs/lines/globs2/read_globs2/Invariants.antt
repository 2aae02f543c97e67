use Rattle.std.proofs.Common.{◌≡◌}
use Rattle.std.specs.List.{filter_map}
use Rattle.mime_text.specs.Lines.{skipped_of}
use Rattle.mime_text.specs.Lines.Globs2.{as_marker, as_rule, is_malformed_rule}
use Rattle.mime_text.proofs.lines.globs2.read_globs2.Given as goal

-- the rules and the markers of the entries so far
abbrev pub invariant-loop-entry : goal.invariant-loop-entry
invariant-loop-entry l = record {
  rules : l.file.rules.items ≡ filter_map as_rule l.yielded;
  deleted : l.file.deleted.items ≡ filter_map as_marker l.yielded;
  skipped : l.file.skipped.items ≡ skipped_of is_malformed_rule l.bytes;
}
