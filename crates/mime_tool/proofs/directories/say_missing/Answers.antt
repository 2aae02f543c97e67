use Rattle.mime_tool.proofs.DirectoryLemmas.Missing.{none_said, some_said}
use Rattle.mime_tool.proofs.directories.say_missing.Goals as goal

pub returns-in-empty : goal.returns-in-empty
returns-in-empty g c = none_said c.args.directories.now _ _ _ c.in-empty.len_below c.say_none.ensures

pub returns-in-len1-up : goal.returns-in-len1-up
returns-in-len1-up g c = some_said c.args.directories.now _ _ _ _ c.in-len1-up.len_at_least c.say_missing_from.ensures
