use Rattle.std.proofs.Common.{ℕ, Option, subst}
use Rattle.std.specs.Prelude.{IsOk}
use Rattle.mime_tool.specs.Run.{out_of_memory}
use Rattle.mime_tool.specs.Sink.{HasRoom}
use Rattle.mime_tool.proofs.DeskLemmas.Messages.{tells_memory, tells_stop}
use Rattle.mime_tool.proofs.stop.tell.Goals as goal

pub returns-in-Ok : goal.returns-in-Ok
returns-in-Ok g c = tells_stop c.args.stop.now _ _ _ c.in-Ok.ensures.says

pub returns-in-Err : goal.returns-in-Err
returns-in-Err g c =
    let room = subst (λ (capacity : Option ℕ). HasRoom capacity (g.E.Sink.holds c.say.new.err) out_of_memory → IsOk c.complain.result)
    c.in-Err.ensures.capacity c.complain.ensures.room in
    tells_memory c.args.stop.now _ _ _ _ _ _ c.in-Err.ensures.says c.complain.ensures.says room
