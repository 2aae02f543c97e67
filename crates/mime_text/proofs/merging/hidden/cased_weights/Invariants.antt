use Rattle.std.proofs.Common.{◌≡◌, ℕ, List, drop, max}
use Rattle.mime_text.specs.Merging.Hiding.{cased_weight, weight_in}
use Rattle.mime_text.proofs.merging.hidden.cased_weights.Given as goal

-- the weights so far, and those of the rules that are left
abbrev pub invariant-loop-rule : goal.invariant-loop-rule
invariant-loop-rule l =
    (text : List ℕ) → max (weight_in l.weights text) (cased_weight (drop l.rule-index l.rules) text) ≡ cased_weight l.rules text
