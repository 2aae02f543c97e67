use Rattle.std.proofs.Common.{◌≡◌, ap, sym, ◌∙◌, arith, rules, true, true≢false}
use Rattle.std.proofs.lemmas.Result.{err_from_is_err_and}
use Rattle.mime_base.specs.Database.Limits.{KeepsLimits}
use Rattle.mime_base.specs.Format.Stored.{stored_text}
use Rattle.mime_load.specs.Walks.{is_suffix}
use Rattle.mime_load.proofs.StoredPatterns.{as_compared, stored_read, stored_suffix}
use Rattle.mime_load.proofs.TreeWalks.{leaf_at}
use Rattle.mime_load.proofs.suffix_tree.read_leaf.Goals as goal
use Rattle.mime_load.proofs.suffix_tree.read_leaf.Goals.{then-flags-ge512-via-then-flags-ge512, then-flags-ge512-via-else-flags-ge512+then-not-is_as_compared, then-flags-ge512-via-else-flags-ge512+else-not-is_as_compared+then-not-is_in_tree}

pub returns-clause-is : goal.returns-clause-is
returns-clause-is c =
    leaf_at c.args.source.now.counted.now c.args.kind c.args.flags c.args.ending.now _ _ (search rules) (search rules) (search rules)
    c.in_ok-kind.ensures.stands (search rules) c.pattern-pattern.ensures (as_compared _ _ (search rules)) (search rules)
    c.are_bytes.ensures c.requires.depth

pub returns-in_err-kind-clause-need : goal.returns-in_err-kind-clause-need
returns-in_err-kind-clause-need c = λ rule stands.
    let p = err_from_is_err_and c.from_residual.result c.from_residual.ensures.1 in
    rw (p.1, p.2) (c.in_err-kind.ensures.need rule.kind stands.kind_stands)

pub returns-then-flags-ge512-clause-need : goal.returns-then-flags-ge512-clause-need
returns-then-flags-ge512-clause-need c = λ rule stands.
    let limits : KeepsLimits rule = stands.ends.2 in
    let text : c.pattern-pattern.result.now ≡ stored_text rule = c.pattern-pattern.ensures ∙ sym stands.ends.0 in
    let kept = stored_read rule c.args.flags c.pattern-pattern.result.now limits.0 stands.flags_are text in
    let suffix : is_suffix c.pattern-pattern.result.now ≡ true = ap is_suffix text ∙ stored_suffix rule stands.ends.1 in
    absurd (elim c.then-flags-ge512.branch [
      | then-flags-ge512-via-then-flags-ge512 w ↦ omega (arith, kept.small, w.if-flags-ge512.true)
      | then-flags-ge512-via-else-flags-ge512+then-not-is_as_compared w ↦
          true≢false (sym kept.unchanged ∙ sym w.is_as_compared.ensures.test ∙ w.if-not-is_as_compared.true)
      | then-flags-ge512-via-else-flags-ge512+else-not-is_as_compared+then-not-is_in_tree w ↦
          true≢false (sym suffix ∙ sym w.is_in_tree.ensures ∙ w.if-not-is_in_tree.true)
    ])
