use Rattle.std.proofs.Common.{false, arith}
use Rattle.std.proofs.lemmas.List.{length-map}
use Rattle.mime_base.specs.Matching.Folding.{compared, compared_byte}
use Rattle.mime_view.specs.Steps.{Part}
use Rattle.mime_view.specs.SuffixTree.{tree_part}
use Rattle.mime_view.proofs.HitsLemmas.Parts.{first_within, searches_within, second_within}
use Rattle.mime_view.proofs.HitsLemmas.Steps.{finds_then, searches_then}
use Rattle.mime_view.proofs.name.walk_twice.Goals as goal

pub returns-clause-finds : goal.returns-clause-finds
returns-clause-finds c = λ rules stand.
    let second = rw c.requires.folded at (c.tree_hits-2.ensures.finds rules stand) in
    finds_then (c.in_ok-tree_hits.ensures.finds rules stand) second (omega arith)

pub returns-clause-searches : goal.returns-clause-searches
returns-clause-searches c =
    let cache = c.args.query.now.counted.now in
    let name = c.args.query.now.key.now in
    let along : Part = tree_part cache c.args.at name in
    let folded : Part = tree_part cache c.args.at (compared false name) in
    let one = searches_within (first_within along folded) c.in_ok-tree_hits.ensures.searches in
    let two = searches_within (second_within along folded) (rw c.requires.folded at c.tree_hits-2.ensures.searches) in
    searches_then one two (omega (arith, length-map name (compared_byte false)))
