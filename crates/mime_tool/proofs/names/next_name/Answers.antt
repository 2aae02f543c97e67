use Rattle.std.proofs.Common.{◌∙◌, arith, sym}
use Rattle.mime_tool.specs.Run.{silent}
use Rattle.mime_tool.proofs.NameLemmas.Pieces.{last_given, last_none, name_ended, name_grown}
use Rattle.mime_tool.proofs.NameLemmas.Takings.{takes_kept}
use Rattle.mime_tool.proofs.RunLemmas.Ends.{writes_kept}
use Rattle.mime_tool.proofs.names.next_name.Goals.{then-is_empty, else-is_empty}
use Rattle.mime_tool.proofs.names.next_name.Goals as goal

pub returns-then-branch : goal.returns-then-branch
returns-then-branch g c =
    let before = c.loop.invariant in
    let taken = rw (c.empty_name-name.ensures.stays) at before.taken in
    let piece = rw (c.if-branch.true) at c.in_ok-add_to.ensures.piece in
    record {
      same_files = before.same_files;
      same_setting = before.same_setting;
      sinks = (before.handed_on, name_ended _ _ _ c.loop.name.items c.add_to.new.name.items before.free taken piece);
    }

pub returns-then-not-branch : goal.returns-then-not-branch
returns-then-not-branch g c =
    let before = c.loop.invariant in
    let taken = rw (c.empty_name-name.ensures.stays) at before.taken in
    let piece = rw (c.if-branch.false) at c.in_ok-add_to.ensures.piece in
    let grown = name_grown _ _ _ c.loop.name.items c.add_to.new.name.items before.free taken piece in
    let handed = c.in_ok-hand_on.ensures in
    let read = rw (c.if-not-branch.true) at c.in_ok-read.ensures in
    let kept = writes_kept _ _ _ silent before.handed_on handed.sinks in
    elim c.if-is_empty.branch [
      | then-is_empty w ↦ rw w.result-is (record {
        same_files = handed.same_files ∙ before.same_files;
        same_setting = handed.same_setting ∙ before.same_setting;
        sinks = (kept, last_none _ _ _ _ (omega (arith, c.add_to.new.name.ok.0)) (sym c.is_empty.ensures ∙ w.if-is_empty.true) grown.1 read.1);
      })
      | else-is_empty w ↦ rw w.result-is (record {
        same_files = handed.same_files ∙ before.same_files;
        same_setting = handed.same_setting ∙ before.same_setting;
        sinks = (kept, last_given _ _ _ _ _ (omega (arith, c.add_to.new.name.ok.0)) (sym c.is_empty.ensures ∙ w.if-is_empty.false) grown.0 grown.1 read.1 read.0);
      })
    ]

pub loop-preserved : goal.loop-preserved
loop-preserved g c =
    let before = c.loop.invariant in
    let piece = rw (c.if-branch.false) at c.in_ok-add_to.ensures.piece in
    let grown = name_grown _ _ _ c.loop.name.items c.add_to.new.name.items before.free before.taken piece in
    let handed = c.in_ok-hand_on.ensures in
    let read = rw (c.if-not-branch.false) at c.in_ok-read.ensures in
    record {
      same_files = handed.same_files ∙ before.same_files;
      same_setting = handed.same_setting ∙ before.same_setting;
      handed_on = writes_kept _ _ _ silent before.handed_on handed.sinks;
      free = grown.0;
      taken = takes_kept _ _ _ _ grown.1 read;
    }
