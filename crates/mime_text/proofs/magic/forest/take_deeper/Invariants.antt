use Rattle.std.proofs.Common.{length}
use Rattle.mime_text.specs.Magic.Forest.{stack}
use Rattle.mime_base.specs.Magic.{plain_matchlets}
use Rattle.mime_text.proofs.MagicLemmas.Stack.{TakesOff}
use Rattle.mime_text.proofs.magic.forest.take_deeper.Given as goal

abbrev pub invariant-loop-root : goal.invariant-loop-root
invariant-loop-root l = TakesOff l.indent (stack l.fn.roots.items) (stack l.roots.items) (plain_matchlets l.children.items)

abbrev pub decreases-loop-root : goal.decreases-loop-root
decreases-loop-root l = length (stack l.roots.items)
