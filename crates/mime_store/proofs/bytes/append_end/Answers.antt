-- Of four zeros, one and that many more are kept.
use Rattle.std.proofs.Common.{◌∙◌, ◌+◌, take, ap, arith}
use Rattle.mime_store.proofs.BytesLemmas.Ends.{zeros_kept}
use Rattle.mime_store.proofs.bytes.append_end.Goals as goal

pub returns : goal.returns
returns c =
    c.truncate.ensures.items ∙ ap (take (c.len.result + 1 + c.args.count)) c.in_ok-extend_from_slice.ensures.items
    ∙ zeros_kept c.args.out.now.items (c.len.result + 1 + c.args.count) c.args.count c.requires.few (omega (arith, c.len.ensures))
