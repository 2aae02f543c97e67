use Rattle.mime_load.specs.Lent.{plain_lists}
use Rattle.mime_tool.proofs.CacheLemmas.Headers.{spelled_opens}
use Rattle.mime_tool.proofs.explain.content.opened.Goals as goal

pub unreachable-requires : goal.unreachable-requires
unreachable-requires c =
    let why = rw c.new.ensures at c.in-Err.ensures.opened in
    spelled_opens c.args.bytes.now (plain_lists c.args.lists.now) c.in-Err.field-0 c.requires.back.spelled why
