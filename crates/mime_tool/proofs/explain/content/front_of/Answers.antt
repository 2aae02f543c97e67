use Rattle.std.proofs.Common.{◌≤◌, Some, arith, length}
use Rattle.mime_load.specs.Lent.{plain_lists}
use Rattle.mime_lookup.specs.CheckingOrder.{read_limit}
use Rattle.mime_lookup.specs.Fronts.{IsEnough}
use Rattle.mime_lookup.proofs.SniffLemmas.FoundFronts.{limit-stated}
use Rattle.mime_lookup.proofs.SniffLemmas.Front.{enough_read}
use Rattle.mime_tool.proofs.ExplainLemmas.Sections.{known_whole}
use Rattle.mime_tool.proofs.explain.content.front_of.Goals as goal

pub returns : goal.returns
returns g c =
    let b = plain_lists c.args.lists.now in
    let stated = c.magic_extent.ensures in
    let greatest = rw c.from.ensures at c.max-limit.ensures in
    let limit = limit-stated b _ _ greatest stated in
    let read = c.in_ok-front.ensures in
    let front = c.in_ok-front.front.items in
    let limited : length front ≤ read_limit b = omega (arith, read.front.0, c.read_front.ensures.reader.within, limit) in
    rw c.in-Some.is (
      λ is_broken. read.broken (omega (arith, greatest)) is_broken,
      known_whole (λ content. IsEnough b content (Some front)) (g.R.Read.remaining c.in-Some.reader) (enough_read b _ _ front read.front.1 limited (λ short. read.whole (omega (arith, short, read.front.0, limit)))),
    )
