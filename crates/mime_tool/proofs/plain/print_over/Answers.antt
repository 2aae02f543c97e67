use Rattle.mime_tool.proofs.plain.print_over.Goals as goal

pub returns : goal.returns
returns g c = rw c.asked_order.ensures at c.print_subjects.ensures
