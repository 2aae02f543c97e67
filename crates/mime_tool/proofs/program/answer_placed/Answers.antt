use Rattle.std.proofs.Common.{sym}
use Rattle.mime_request.specs.Request.{plain_request}
use Rattle.mime_tool.proofs.RunLemmas.Replies.{replies_named, replies_no_text}
use Rattle.mime_tool.proofs.program.answer_placed.Goals as goal

pub returns-in-Some : goal.returns-in-Some
returns-in-Some g c = replies_no_text _ c.args.raws.now (plain_request c.args.request.now) c.in-Some.number _ _ _
    (rw c.files_of.ensures at (sym c.in-Some.ensures)) c.refuse_word.ensures

pub returns-in-None : goal.returns-in-None
returns-in-None g c = replies_named _ c.args.raws.now (plain_request c.args.request.now) _ _ _
    (rw c.files_of.ensures at (sym c.in-None.ensures)) c.answer.ensures
