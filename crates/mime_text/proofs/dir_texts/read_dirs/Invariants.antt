use Rattle.std.proofs.Common.{take}
use Rattle.mime_text.specs.DirTexts.{SayDirs}
use Rattle.mime_text.specs.Merging.{plain_dirs}
use Rattle.mime_text.proofs.dir_texts.read_dirs.Given as goal

abbrev pub invariant-loop-number : goal.invariant-loop-number
invariant-loop-number l = SayDirs (take l.number l.dirs) (plain_dirs l.files.items)
