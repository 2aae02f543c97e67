use Rattle.std.proofs.Common.{◌≡◌, ap}
use Rattle.mime_tool.specs.Line.{name_for}
use Rattle.mime_tool.specs.Run.{printed}
use Rattle.mime_tool.proofs.ExplainLemmas.Sections.{joined_lines}
use Rattle.mime_tool.proofs.explain.lines.explanation.Goals as goal

pub returns : goal.returns
returns c =
    let it = c.args.explaining in
    let named : c.name_for-name.result.now ≡ name_for it.order c.args.file.now = c.name_for-name.ensures in
    let name = name_for it.order c.args.file.now in
    let matches = rw named at c.in_ok-matches.ensures in
    let decided = c.in_ok-decision.ensures name matches in
    record {
      kind = c.in_ok-decision.decision.kind.now;
      way = c.in_ok-decision.decision.by;
      chosen = decided.0;
      decided = decided.1;
      is = ap printed (joined_lines _ _ _ _ _ _ _ _ (rw c.by_line.ensures at c.in_ok-extend_from_slice.ensures.items)
          (rw c.section_of-section.ensures.section at (c.in_ok-push_reasons.ensures name matches)) c.in_ok-push_type.ensures c.new-lines.ensures.items);
    }
