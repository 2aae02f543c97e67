use Rattle.mime_tool.proofs.subjects.print_names.Goals as goal

pub returns : goal.returns
returns g c = rw (c.new-names.ensures, c.new-prepared.ensures.lookup) at c.print_each.ensures
