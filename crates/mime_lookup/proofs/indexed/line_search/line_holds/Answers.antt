use Rattle.std.proofs.Common.{◌≡◌, ◌<◌, length, get_or, ap, arith}
use Rattle.std.proofs.lemmas.List.{get_or_default, length-map}
use Rattle.mime_base.specs.Magic.WindowBytes.{line_bytes}
use Rattle.mime_lookup.specs.TopLines.{PlainTop, plain_top, plain_tops}
use Rattle.mime_lookup.specs.declared.indexed.line_head.LineHead.{LineHead}
use Rattle.mime_lookup.specs.declared.indexed.top_line.TopLine.{TopLine}
use Rattle.mime_lookup.proofs.IndexLemmas.FoundLines.{no_head, refused_fails}
use Rattle.mime_lookup.proofs.IndexLemmas.LineBytes.{asked_bytes-least, no_top}
use Rattle.mime_lookup.proofs.IndexLemmas.LineHeads.{line_heads-length}
use Rattle.mime_lookup.proofs.IndexLemmas.TopLines.{at_top, tops-length}
use Rattle.mime_lookup.proofs.indexed.line_search.line_holds.Goals as goal

pub bounds-asked-line : goal.bounds-asked-line
bounds-asked-line g c =
    omega (arith, tops-length (g.S.MagicLines.plain c.args.asked.now.source.now) c.args.asked.now.heads.now c.args.asked.now.tops.now c.requires.headed, c.requires.inside)

pub returns-then-refuses-clause-fails : goal.returns-then-refuses-clause-fails
returns-then-refuses-clause-fails g c = λ _.
    let heads = c.args.asked.now.heads.now in
    let tops = plain_tops (g.S.MagicLines.plain c.args.asked.now.source.now) c.args.asked.now.tops.now in
    let inside : c.args.line < length heads =
    omega (arith, tops-length (g.S.MagicLines.plain c.args.asked.now.source.now) heads c.args.asked.now.tops.now c.requires.headed, c.requires.inside) in
    let head : LineHead = get_or heads c.args.line no_head in
    let is : head ≡ get_or heads c.args.line head = get_or_default heads c.args.line no_head head inside in
    refused_fails heads tops c.args.asked.now.content.now c.args.asked.now.host c.requires.headed c.args.line
    head is (c.refuses.ensures.refuses c.if-refuses.true)

pub returns-then-refuses-clause-bytes : goal.returns-then-refuses-clause-bytes
returns-then-refuses-clause-bytes g c =
    let plain = g.S.MagicLines.plain c.args.asked.now.source.now in
    let heads = c.args.asked.now.heads.now in
    let tops = plain_tops plain c.args.asked.now.tops.now in
    let inside : c.args.line < length tops =
    omega (arith, length-map c.args.asked.now.tops.now (plain_top plain), c.requires.inside) in
    let headed : c.args.line < length heads = omega (arith, line_heads-length heads tops c.requires.headed, inside) in
    let head : LineHead = get_or heads c.args.line no_head in
    let top : PlainTop = get_or tops c.args.line no_top in
    omega (
      arith,
      c.refuses.ensures.bytes,
      asked_bytes-least (length c.args.asked.now.content.now) tops heads c.requires.headed c.args.line head top inside
          (get_or_default heads c.args.line no_head head headed) (get_or_default tops c.args.line no_top top inside),
    )

pub returns-clause-bytes : goal.returns-clause-bytes
returns-clause-bytes g c =
    let plain = g.S.MagicLines.plain c.args.asked.now.source.now in
    let heads = c.args.asked.now.heads.now in
    let tops = plain_tops plain c.args.asked.now.tops.now in
    let inside : c.args.line < length tops =
    omega (arith, length-map c.args.asked.now.tops.now (plain_top plain), c.requires.inside) in
    let headed : c.args.line < length heads = omega (arith, line_heads-length heads tops c.requires.headed, inside) in
    let head : LineHead = get_or heads c.args.line no_head in
    let found = c.index-asked-line.result in
    omega (
      arith,
      c.refuses.ensures.bytes,
      c.holds.ensures.bytes,
      ap (λ content. line_bytes (length content) (plain found.line)) c.bytes.ensures.same,
      ap (λ (t : TopLine g.row.L.Denot). line_bytes (length c.bytes.result.now) (plain t.line)) c.index-asked-line.is,
      asked_bytes-least (length c.args.asked.now.content.now) tops heads c.requires.headed c.args.line head (plain_top plain found) inside
          (get_or_default heads c.args.line no_head head headed)
          (at_top plain c.args.asked.now.tops.now c.args.line found c.requires.inside c.index-asked-line.is),
    )
