use Rattle.mime_text.specs.Merging.Gathering.{Gathers}
use Rattle.mime_text.proofs.merging.gather.Given as goal

-- the lists of the directories so far
abbrev pub invariant-loop-dir : goal.invariant-loop-dir
invariant-loop-dir l = Gathers l.lists l.yielded
