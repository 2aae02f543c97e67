use Rattle.mime_tool.proofs.line.print_named.Goals as goal

pub returns-in-CannotOpen : goal.returns-in-CannotOpen
returns-in-CannotOpen g c = rw c.in-CannotOpen.is c.refuse.ensures

pub returns-in-NameTooLong : goal.returns-in-NameTooLong
returns-in-NameTooLong g c = rw c.in-NameTooLong.is c.refuse-in-NameTooLong.ensures

pub returns-in-CannotRead : goal.returns-in-CannotRead
returns-in-CannotRead g c = rw c.in-CannotRead.is c.refuse-in-CannotRead.ensures
