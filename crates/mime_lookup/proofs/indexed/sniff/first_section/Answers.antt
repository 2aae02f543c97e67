use Rattle.std.proofs.Common.{◌<◌, length, sym, arith}
use Rattle.std.proofs.lemmas.List.{length-map}
use Rattle.mime_lookup.specs.TopLines.{plain_top, plain_tops}
use Rattle.mime_lookup.proofs.IndexLemmas.FoundLines.{first_holds, none_holds}
use Rattle.mime_lookup.proofs.IndexLemmas.TopLines.{at_top}
use Rattle.mime_lookup.proofs.indexed.sniff.first_section.Goals as goal

pub returns-then-first-len-clause-first : goal.returns-then-first-len-clause-first
returns-then-first-len-clause-first g c = λ sections whole.
    let plain = g.S.MagicLines.plain c.args.heads.now.source in
    let tops = c.args.heads.now.tops.items in
    let inside : c.first_line-first.result < length tops = omega (arith, c.if-first-len.true, c.len.ensures) in
    sym (first_holds c.args.content.now c.args.host (plain_tops plain tops) sections whole c.first_line-first.result c.first_line-first.ensures.first
    (plain_top plain c.index-top.result.now) (omega (arith, inside, length-map tops (plain_top plain)))
    (at_top plain tops c.first_line-first.result c.index-top.result.now inside c.index-top.ensures))

pub returns-clause-first : goal.returns-clause-first
returns-clause-first g c = λ sections whole.
    let plain = g.S.MagicLines.plain c.args.heads.now.source in
    let tops = c.args.heads.now.tops.items in
    sym (none_holds c.args.content.now c.args.host (plain_tops plain tops) sections whole c.first_line-first.result c.first_line-first.ensures.first
    (λ less. omega (arith, less, c.if-first-len.false, c.len.ensures, length-map tops (plain_top plain))))
