use Rattle.std.proofs.Common.{length}
use Rattle.mime_text.specs.Magic.Forest.{stack}
use Rattle.mime_base.specs.Magic.{plain_matchlets}
use Rattle.mime_text.proofs.MagicLemmas.Stack.{TakesAll}
use Rattle.mime_text.proofs.magic.forest.matchlets.Given as goal

abbrev pub invariant-loop-root : goal.invariant-loop-root
invariant-loop-root l = TakesAll (stack l.fn.roots.items) (stack l.roots.items) (plain_matchlets l.matchlets.items)

abbrev pub decreases-loop-root : goal.decreases-loop-root
decreases-loop-root l = length l.roots.items
