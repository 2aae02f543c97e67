use Rattle.mime_tool.proofs.NameLemmas.LastSlash.{name_found, name_whole}
use Rattle.mime_tool.proofs.line.base_name.Goals as goal

pub returns-in-Some : goal.returns-in-Some
returns-in-Some c = name_found c.args.file.now c.in-Some.slash c.in-Some.ensures

pub returns-in-None : goal.returns-in-None
returns-in-None c = name_whole c.args.file.now c.in-None.ensures
