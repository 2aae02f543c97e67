-- A directory more.
use Rattle.mime_text.proofs.Merges.Gathered.{gathers-more}
use Rattle.mime_text.proofs.merging.gather.Goals as goal

pub loop-dir-preserved : goal.loop-dir-preserved
loop-dir-preserved c =
    gathers-more c.loop-dir.lists c.add.new.self c.loop-dir.yielded c.in-Some.dir c.loop-dir.invariant c.in_ok-add.ensures
