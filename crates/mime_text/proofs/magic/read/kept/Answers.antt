use Rattle.std.proofs.Common.{sym, ◌∙◌}
use Rattle.std.proofs.lemmas.Bool.{ltb-true, ltb-false}
use Rattle.mime_text.proofs.MagicLemmas.KeptSections.{keeps, leaves}
use Rattle.mime_text.proofs.magic.read.kept.Goals as goal

pub loop-flat-preserved-in-Continue-branch-2 : goal.loop-flat-preserved-in-Continue-branch-2
loop-flat-preserved-in-Continue-branch-2 c =
    let some = ltb-true _ _ (sym c.has_lines.ensures ∙ c.if-has_lines.true) in
    record {
      kept = keeps _ _ _ _ _ c.loop-flat.invariant.kept c.in_ok-section.ensures.grown some c.in_ok-push.ensures.items;
      roots = c.in_ok-section.ensures.left;
    }

pub loop-flat-preserved : goal.loop-flat-preserved
loop-flat-preserved c =
    let none = ltb-false _ _ (sym c.has_lines.ensures ∙ c.if-has_lines.false) in
    record {
      kept = leaves _ _ _ c.in_ok-section.section c.loop-flat.invariant.kept c.in_ok-section.ensures.grown none;
      roots = c.in_ok-section.ensures.left;
    }
