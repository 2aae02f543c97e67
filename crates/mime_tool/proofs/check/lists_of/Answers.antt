use Rattle.mime_tool.proofs.CheckLemmas.Checks.{reads_back}
use Rattle.mime_tool.proofs.check.lists_of.Goals as goal

pub returns : goal.returns
returns c =
    let back = rw c.new.ensures at c.read_back.ensures in
    reads_back c.args.cache.now c.read_back.result back.spells back.packed back.limits back.first back.written
