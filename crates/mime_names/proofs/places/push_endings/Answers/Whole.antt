-- After the first byte: the rules of the whole name, where it has a node.
use Rattle.std.proofs.Common.{◌≡◌, ◌⊎◌, ℕ, ◌<◌, drop, inl, inr, sym, subst, arith}
use Rattle.mime_names.specs.Chains.{AddsPlaces, GathersPlaces}
use Rattle.mime_names.specs.Keys.{IsEndKey, EndsFrom, node_key}
use Rattle.mime_names.specs.Tree.{IsAt, next_of, spelled}
use Rattle.mime_names.proofs.EndLemmas.{adds-ends, adds-whole, ends-whole}
use Rattle.mime_names.proofs.GatherLemmas.{gathers-both, gathers-weaker}
use Rattle.mime_names.proofs.places.push_endings.Goals as goal

-- the key of the whole, without what else is known of it
whole_first : (Key Some Ending : Type 0) → Ending ⊎ (Key × Some) → Ending ⊎ Key
whole_first Key Some Ending (inl ending) = inl ending
whole_first Key Some Ending (inr last) = inr last.0

-- no key of the whole
whole_none : (node : ℕ) (Key Ending : Type 0) → node ≡ 0 → Ending ⊎ (Key × (0 < node)) → Ending
whole_none node Key Ending none (inl ending) = ending
whole_none node Key Ending none (inr last) = absurd (omega (arith, none, last.1))

-- where the whole has a node, its rules are among the places then
pub found-gathers : goal.returns-in_ok-push_key-3-clause-gathers
found-gathers c =
    let tree = c.args.table.now.tree in
    let keys = c.args.table.now.keys.items in
    let text = spelled c.args.name.now in
    let at = c.loop-left.at in
    let whole = c.next_of-whole.result in
    let before = c.loop-left.invariant in
    let all : c.loop-left.left ≡ 0 = omega (arith, c.loop-left-test.false) in
    let leads : IsAt tree text at = subst (λ n. IsAt tree (drop n text) at) all before.leads in
    let next : next_of tree at 0 ≡ whole = sym c.next_of-whole.ensures.next in
    gathers-both keys (EndsFrom tree text 0) (λ key. key ≡ node_key whole) (IsEndKey tree text) _ _ _
    (λ key is. whole_first (key ≡ node_key whole) (0 < whole) (EndsFrom tree text 0 key) (ends-whole tree text at whole key leads next is))
    (subst (λ n. GathersPlaces (EndsFrom tree text n) keys c.args.found.now.items c.loop-left.found.items) all before.gathered)
    c.in_ok-push_key-3.ensures.walks

-- and no others are
pub found-adds : goal.returns-in_ok-push_key-3-clause-adds
found-adds c =
    let tree = c.args.table.now.tree in
    let keys = c.args.table.now.keys.items in
    let text = spelled c.args.name.now in
    let at = c.loop-left.at in
    let whole = c.next_of-whole.result in
    let before = c.loop-left.invariant in
    let all : c.loop-left.left ≡ 0 = omega (arith, c.loop-left-test.false) in
    let leads : IsAt tree text at = subst (λ n. IsAt tree (drop n text) at) all before.leads in
    adds-whole tree text c.requires.is_tree keys _ _ _ whole
    (at, leads, omega arith, sym c.next_of-whole.ensures.next, omega (arith, c.if-whole-gt0.true))
    (subst (λ n. AddsPlaces (EndsFrom tree text n) keys c.args.found.now.items c.loop-left.found.items) all before.adds)
    c.push_key-then-whole-gt0.ensures.adds

-- nor where memory runs out on the way
pub stopped-adds : goal.returns-in_err-push_key-3-clause-adds
stopped-adds c =
    let tree = c.args.table.now.tree in
    let keys = c.args.table.now.keys.items in
    let text = spelled c.args.name.now in
    let at = c.loop-left.at in
    let whole = c.next_of-whole.result in
    let before = c.loop-left.invariant in
    let all : c.loop-left.left ≡ 0 = omega (arith, c.loop-left-test.false) in
    let leads : IsAt tree text at = subst (λ n. IsAt tree (drop n text) at) all before.leads in
    adds-whole tree text c.requires.is_tree keys _ _ _ whole
    (at, leads, omega arith, sym c.next_of-whole.ensures.next, omega (arith, c.if-whole-gt0.true))
    (subst (λ n. AddsPlaces (EndsFrom tree text n) keys c.args.found.now.items c.loop-left.found.items) all before.adds)
    c.push_key-then-whole-gt0.ensures.adds

-- where it has none, all places are there
pub none-gathers : goal.returns-else-whole-gt0-clause-gathers
none-gathers c =
    let tree = c.args.table.now.tree in
    let keys = c.args.table.now.keys.items in
    let text = spelled c.args.name.now in
    let at = c.loop-left.at in
    let whole = c.next_of-whole.result in
    let before = c.loop-left.invariant in
    let all : c.loop-left.left ≡ 0 = omega (arith, c.loop-left-test.false) in
    let leads : IsAt tree text at = subst (λ n. IsAt tree (drop n text) at) all before.leads in
    let next : next_of tree at 0 ≡ whole = sym c.next_of-whole.ensures.next in
    gathers-weaker keys (EndsFrom tree text 0) (IsEndKey tree text) _ _
    (λ key is. whole_none whole (key ≡ node_key whole) (EndsFrom tree text 0 key) (omega (arith, c.if-whole-gt0.false))
    (ends-whole tree text at whole key leads next is))
    (subst (λ n. GathersPlaces (EndsFrom tree text n) keys c.args.found.now.items c.loop-left.found.items) all before.gathered)

-- and no others
pub none-adds : goal.returns-else-whole-gt0-clause-adds
none-adds c =
    adds-ends c.args.table.now.tree (spelled c.args.name.now) c.args.table.now.keys.items _ _ c.loop-left.left c.loop-left.invariant.adds
