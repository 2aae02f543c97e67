use Rattle.std.proofs.Common.{arith}
use Rattle.mime_view.specs.SuffixTree.{IsSibling}
use Rattle.mime_view.proofs.HitsLemmas.Parts.{searches_within}
use Rattle.mime_view.proofs.HitsLemmas.Steps.{searches_ok, searches_then}
use Rattle.mime_view.proofs.SuffixTreeLemmas.WalkedParts.{leaves_within}
use Rattle.mime_view.proofs.suffixes.descend.Goals as goal

pub returns-clause-searches : goal.returns-clause-searches
returns-clause-searches c =
    let named = rw c.in-Some.is at c.in_ok-below.ensures.below.named in
    let within = leaves_within c.args.query.now.counted.now (IsSibling c.args.query.now.counted.now c.args.block) c.args.byte c.in-Some.below named in
    searches_ok (searches_then {k = 29} c.in_ok-below.ensures.searches (searches_within within c.in_ok-leaf_hits.ensures.searches) (omega arith))
