use Rattle.std.proofs.Common.{length}
use Rattle.mime_text.specs.Magic.Entries.{plain_entries}
use Rattle.mime_text.specs.Magic.Forest.{stack}
use Rattle.mime_text.proofs.MagicLemmas.Stack.{Grows}
use Rattle.mime_text.proofs.magic.forest.grow.Given as goal

abbrev pub invariant-loop-entry : goal.invariant-loop-entry
invariant-loop-entry l = Grows (plain_entries l.fn.entries.items) (plain_entries l.entries.items) (stack l.roots.items)

abbrev pub decreases-loop-entry : goal.decreases-loop-entry
decreases-loop-entry l = length l.entries.items
