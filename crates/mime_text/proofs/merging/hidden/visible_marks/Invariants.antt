use Rattle.std.proofs.Common.{◌≡◌, map, not, take}
use Rattle.mime_text.specs.Merging.Hiding.{AreLeast, is_outweighed, weight_in}
use Rattle.mime_text.proofs.merging.hidden.visible_marks.Given as goal

-- the marks so far, and what is known is right
abbrev pub invariant-loop-rule : goal.invariant-loop-rule
invariant-loop-rule l = record {
  shown : l.shown.items ≡ map (λ rule. not (is_outweighed (weight_in l.weights) rule)) (take l.rule-index l.rules);
  known : AreLeast (weight_in l.weights) l.known;
}
