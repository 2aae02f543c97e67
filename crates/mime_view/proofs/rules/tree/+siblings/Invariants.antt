use Rattle.std.proofs.Common.{◌≡◌, ◌+◌, ◌-◌, ◌*◌, length}
use Rattle.std.specs.Prelude.{Ok}
use Rattle.mime_base.specs.Format.Tree.{Tree, sibling_count}
use Rattle.mime_view.specs.Listing.{Adds}
use Rattle.mime_view.specs.Listing.Faults.{IsSiblingsFault}
use Rattle.mime_view.specs.Listing.Walks.{ListsSiblings}
use Rattle.mime_view.specs.Listing.Reads.{ReadsListedTree}
use Rattle.mime_view.proofs.SuffixTreeLemmas.SiblingRows.{Left}
use Rattle.mime_view.proofs.rules.tree.+siblings.Given as goal

abbrev pub decreases-add_sibling : goal.decreases-add_sibling
decreases-add_sibling l = 2 * (254 - length l.ending.now)

abbrev pub decreases-add_siblings : goal.decreases-add_siblings
decreases-add_siblings l = 2 * (254 - length l.ending.now) + 1

abbrev pub invariant-add_siblings-loop-i : goal.invariant-add_siblings-loop-i
invariant-add_siblings-loop-i l = record {
  left : (tree : Tree) → sibling_count tree ≡ l.count → ReadsListedTree l.source.counted.now l.first l.initial.ending tree
      → Left l.source.counted.now l.first l.count l.initial.ending tree l.initial.listing l.initial.spending.budget.records l.i
      l.listing l.spending.budget.records;
  ending : l.ending ≡ l.initial.ending;
  lists : ListsSiblings l.source.counted.now l.first l.i l.initial.ending l.initial.listing l.listing;
  adds : Adds {X = Unit {0}} l.source.counted.now (IsSiblingsFault l.source.counted.now l.first l.count (length l.initial.ending)) 0
      l.initial.listing l.listing l.initial.spending l.spending (Ok tt);
}
