use Rattle.mime_tool.proofs.check.tell.Goals as goal

pub returns-in-Ok : goal.returns-in-Ok
returns-in-Ok g c = rw c.in-Ok.is (rw c.counts_of.ensures at c.print_counts.ensures)
