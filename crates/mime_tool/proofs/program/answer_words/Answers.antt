use Rattle.mime_tool.proofs.RunLemmas.Replies.{replies_asked, replies_refused}
use Rattle.mime_tool.proofs.program.answer_words.Goals as goal

pub returns-in-Ok : goal.returns-in-Ok
returns-in-Ok g c = replies_asked _ c.args.raws.now _ c.in-Ok.request _ _ _ c.in-Ok.ensures c.answer_placed.ensures

pub returns-in-Err : goal.returns-in-Err
returns-in-Err g c = replies_refused _ c.args.raws.now _ c.in-Err.error _ _ _ c.in-Err.ensures c.refuse.ensures
