-- One more entry.
use Rattle.mime_text.proofs.LineFiles.Entries.{filter_map-more}
use Rattle.mime_text.specs.Lines.Globs2.{as_marker, as_rule}
use Rattle.mime_text.proofs.lines.globs2.read_globs2.Goals as goal

pub loop-entry-preserved : goal.loop-entry-preserved
loop-entry-preserved c =
    let so_far = c.loop-entry.yielded in
    let entry = c.in-Some.entry in
    record {
      rules = filter_map-more as_rule so_far entry _ _ c.loop-entry.invariant.rules c.in_ok-add.ensures.rules;
      deleted = filter_map-more as_marker so_far entry _ _ c.loop-entry.invariant.deleted c.in_ok-add.ensures.deleted;
      skipped = cc;
    }
