use Rattle.std.proofs.Common.{ℕ, ◌+◌, ◌*◌, List}
use Rattle.std.specs.Prelude.{Ok}
use Rattle.mime_base.specs.Cache.Bytes.{Stands}
use Rattle.mime_base.specs.Format.SuffixTree.{SuffixTreeAt}
use Rattle.mime_base.specs.declared.database.rule.GlobRule.{GlobRule}
use Rattle.mime_view.specs.Magic.{LiesBlock}
use Rattle.mime_view.specs.Steps.{Searches}
use Rattle.mime_view.specs.SuffixTree.{IsSibling, LeadsAlong, tree_part}
use Rattle.mime_view.proofs.SuffixTreeLemmas.TreePaths.{WalkLeft}
use Rattle.mime_view.proofs.suffixes.tree_hits.Given as goal

abbrev pub invariant-loop-depth : goal.invariant-loop-depth
invariant-loop-depth l = record {
  left : (rules : List GlobRule) → SuffixTreeAt (Stands l.query.counted.now) l.at rules
      → WalkLeft l.query.counted.now l.query.case rules l.name l.fn.progress l.block l.depth l.progress;
  lies : LiesBlock l.query.counted.now l.block.first 12 l.block.count;
  leads : (r : ℕ) → IsSibling l.query.counted.now l.block r → LeadsAlong l.query.counted.now l.at l.name l.depth r;
  searches : Searches {X = Unit {0}} (tree_part l.query.counted.now l.at l.name) 256 (29 * l.depth + 1) l.fn.progress l.progress (Ok tt);
}
