use Rattle.std.proofs.Common.{◌≡◌, ◌<◌, length, get_or, arith}
use Rattle.std.proofs.lemmas.List.{get_or_default}
use Rattle.mime_lookup.specs.TopLines.{plain_tops}
use Rattle.mime_lookup.specs.declared.indexed.line_head.LineHead.{LineHead}
use Rattle.mime_lookup.proofs.IndexLemmas.FoundLines.{no_head, refused_fails}
use Rattle.mime_lookup.proofs.IndexLemmas.LineBytes.{asked_bytes-one}
use Rattle.mime_lookup.proofs.IndexLemmas.LineHeads.{line_heads-length}
use Rattle.mime_lookup.proofs.IndexLemmas.NotedPairs.{lacks_pair}
use Rattle.mime_lookup.proofs.indexed.first_line.other_holds.Goals as goal

pub returns-then-not-may_have-clause-fails : goal.returns-then-not-may_have-clause-fails
returns-then-not-may_have-clause-fails g c = λ _ _ top inside top_is.
    let heads = c.args.asked.now.heads.now in
    let tops = plain_tops (g.S.MagicLines.plain c.args.asked.now.source.now) c.args.asked.now.tops.now in
    let content = c.args.asked.now.content.now in
    let within : c.args.line < length heads = omega (arith, line_heads-length heads tops c.requires.headed, inside) in
    let head : LineHead = get_or heads c.args.line no_head in
    let is : head ≡ get_or heads c.args.line head = get_or_default heads c.args.line no_head head within in
    let lacks = c.may_have.ensures.lacks c.if-not-may_have.true in
    refused_fails heads tops content c.args.asked.now.host c.requires.headed c.args.line head is
    (lacks_pair head c.args.pair content c.may_have.ensures.bytes (c.requires.paired lacks.0 head within is) lacks.1) top inside top_is

pub returns-then-not-may_have-clause-bytes : goal.returns-then-not-may_have-clause-bytes
returns-then-not-may_have-clause-bytes g c =
    omega (
      arith,
      asked_bytes-one (length c.args.asked.now.content.now) (plain_tops (g.S.MagicLines.plain c.args.asked.now.source.now) c.args.asked.now.tops.now)
          c.args.line,
    )

pub returns-else-line-until-clause-bytes : goal.returns-else-line-until-clause-bytes
returns-else-line-until-clause-bytes g c =
    omega (
      arith,
      asked_bytes-one (length c.args.asked.now.content.now) (plain_tops (g.S.MagicLines.plain c.args.asked.now.source.now) c.args.asked.now.tops.now)
          c.args.line,
    )
