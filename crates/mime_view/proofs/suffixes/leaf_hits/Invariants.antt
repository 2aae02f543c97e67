use Rattle.std.specs.Prelude.{Ok}
use Rattle.mime_base.specs.Format.Tree.{Tree}
use Rattle.mime_view.specs.Steps.{Searches}
use Rattle.mime_view.specs.SuffixTree.{ReadsBlock, leaves_part}
use Rattle.mime_view.proofs.SuffixTreeLemmas.TreeScans.{ScanLeft}
use Rattle.mime_view.proofs.suffixes.leaf_hits.Given as goal

abbrev pub invariant-loop-i : goal.invariant-loop-i
invariant-loop-i l = record {
  left : (tree : Tree) → ReadsBlock l.query.counted.now l.block tree
      → ScanLeft l.query.counted.now l.block l.query.case l.pattern_length tree l.fn.progress l.i l.progress;
  searches : Searches {X = Unit {0}} (leaves_part l.query.counted.now l.block) 256 0 l.fn.progress l.progress (Ok tt);
}
