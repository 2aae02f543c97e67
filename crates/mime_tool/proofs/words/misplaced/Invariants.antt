use Rattle.std.proofs.Common.{◌≡◌, drop}
use Rattle.clap.specs.Walk.{texts}
use Rattle.mime_tool.specs.Words.{misplaced}
use Rattle.mime_tool.proofs.words.misplaced.Given as goal

abbrev pub invariant-loop-raw : goal.invariant-loop-raw
invariant-loop-raw l = misplaced l.raws (texts l.files) ≡ misplaced (drop l.raw-index l.raws) (texts l.files)
