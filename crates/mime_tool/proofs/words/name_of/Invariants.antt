use Rattle.std.proofs.Common.{◌≡◌, drop}
use Rattle.mime_tool.specs.Words.{name_of}
use Rattle.mime_tool.proofs.words.name_of.Given as goal

abbrev pub invariant-loop-raw : goal.invariant-loop-raw
invariant-loop-raw l = name_of l.raws l.text ≡ name_of (drop l.raw-index l.raws) l.text
