-- The first eight bytes of both paths differ, or are equal.
use Rattle.std.proofs.Common.{drop, ap, ap₂, sym, ◌∙◌}
use Rattle.std.specs.Ordering.{nat_cmp}
use Rattle.std.specs.Cmp.Lexicographic.{slice_cmp}
use Rattle.byteorder.specs.Endian.{big_number}
use Rattle.mime_base.specs.Format.Stored.{reversed_ending}
use Rattle.mime_store.specs.SuffixTree.{ending_path}
use Rattle.mime_store.proofs.BytesLemmas.Orders.{decided, left_over}
use Rattle.mime_store.proofs.RulesLemmas.Texts.{NoZero-from_test}
use Rattle.mime_store.proofs.SuffixTreeLemmas.Starts.{starts-order}
use Rattle.mime_store.proofs.ending.Ending.compare.Goals as goal

pub returns-then-start-others : goal.returns-then-start-others
unfolding ending_path
returns-then-start-others c =
    let left = c.args.self.now in
    let right = c.args.other.now in
    let path = reversed_ending left.rule.now in
    let other = reversed_ending right.rule.now in
    let start = c.read_u64-start.result in
    let others = c.read_u64-others.result in
    c.cmp.ensures
    ∙ sym (decided start others (slice_cmp nat_cmp (drop 8 path) (drop 8 other)) c.if-start-others.true)
    ∙ starts-order start others path other (c.read_u64-start.ensures ∙ ap (big_number 8) left.starts)
    (c.read_u64-others.ensures ∙ ap (big_number 8) right.starts) left.bytes right.bytes
    (NoZero-from_test path left.no_zero) (NoZero-from_test other right.no_zero)

pub returns : goal.returns
unfolding ending_path
returns c =
    let left = c.args.self.now in
    let right = c.args.other.now in
    let path = reversed_ending left.rule.now in
    let other = reversed_ending right.rule.now in
    let start = c.read_u64-start.result in
    let others = c.read_u64-others.result in
    c.cmp-2.ensures
    ∙ ap₂ (slice_cmp nat_cmp) (c.as_slice.ensures.value ∙ left.goes_on) (c.as_slice-2.ensures.value ∙ right.goes_on)
    ∙ sym (left_over start others (slice_cmp nat_cmp (drop 8 path) (drop 8 other)) c.if-start-others.false)
    ∙ starts-order start others path other (c.read_u64-start.ensures ∙ ap (big_number 8) left.starts)
    (c.read_u64-others.ensures ∙ ap (big_number 8) right.starts) left.bytes right.bytes
    (NoZero-from_test path left.no_zero) (NoZero-from_test other right.no_zero)
