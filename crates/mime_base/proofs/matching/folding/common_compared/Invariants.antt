use Rattle.std.proofs.Common.{◌≡◌, ◌+◌, drop}
use Rattle.std.specs.List.{common_prefix_len}
use Rattle.mime_base.specs.Matching.Folding.{agrees}
use Rattle.mime_base.proofs.matching.folding.common_compared.Given as goal

abbrev pub invariant-loop-i : goal.invariant-loop-i
invariant-loop-i l =
    l.i + common_prefix_len (λ x y. agrees l.cased (x, y)) (drop l.i l.left) (drop l.i l.right)
    ≡ common_prefix_len (λ x y. agrees l.cased (x, y)) l.left l.right
