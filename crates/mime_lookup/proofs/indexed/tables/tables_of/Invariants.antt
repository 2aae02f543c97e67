use Rattle.mime_lookup.specs.Tables.{HaveLines}
use Rattle.mime_lookup.proofs.indexed.tables.tables_of.Given as goal

abbrev pub invariant-loop-line : goal.invariant-loop-line
invariant-loop-line l = HaveLines l.tables l.heads l.line

abbrev pub decreases-loop-line : goal.decreases-loop-line
decreases-loop-line l = l.line
