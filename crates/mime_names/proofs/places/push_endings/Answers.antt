mod Whole
use Rattle.std.proofs.Common.{◌≡◌, ◌+◌, ◌-◌, ◌∷◌, length, get_or, drop, inl, sym, ap, subst, ◌∙◌, arith}
use Rattle.std.proofs.lemmas.List.{length-map}
use Rattle.mime_base.specs.declared.meter.Meter.{Meter}
use Rattle.mime_names.specs.Chains.{AddsPlaces, GathersPlaces}
use Rattle.mime_names.specs.Keys.{IsEndKey, EndsFrom, node_key}
use Rattle.mime_names.specs.Tree.{IsAt, next_of, spelled, symbol}
use Rattle.mime_names.proofs.EndLemmas.{adds-ends, adds-more, ends-miss, ends-more, ends-start}
use Rattle.mime_names.proofs.GatherLemmas.{adds-stronger, gathers-both, gathers-weaker}
use Rattle.mime_names.proofs.TreeLemmas.{is_at-end, is_at-more, spelled-more}
use Rattle.mime_names.proofs.places.push_endings.Answers.Whole as whole
use Rattle.mime_names.proofs.places.push_endings.Goals as goal

pub returns-in_err-push_key-clause-adds : goal.returns-in_err-push_key-clause-adds
returns-in_err-push_key-clause-adds c =
    let tree = c.args.table.now.tree in
    let name = c.args.name.now in
    adds-stronger c.args.table.now.keys.items (λ key. key ≡ 257) (IsEndKey tree (spelled name)) _ _
    (λ key is. inl (length name, 0, omega arith, is, is_at-end tree name)) c.push_key.ensures.adds

pub loop-left-init : goal.loop-left-init
loop-left-init c =
    let tree = c.args.table.now.tree in
    let name = c.args.name.now in
    let keys = c.args.table.now.keys.items in
    let ends = EndsFrom tree (spelled name) (length name) in
    record {
      steps = omega (arith, c.in_ok-push_key.ensures.steps);
      bytes = c.in_ok-push_key.ensures.bytes;
      within = omega arith;
      node = c.requires.is_tree.some;
      leads = is_at-end tree name;
      gathered =
          gathers-weaker keys (λ key. key ≡ 257) ends _ _
          (λ key is. ends-start tree (spelled name) (length name) key (omega (arith, length-map name symbol)) is)
          c.in_ok-push_key.ensures.walks;
      adds =
          adds-stronger keys (λ key. key ≡ 257) ends _ _ (λ key is. (length name, 0, omega arith, is, is_at-end tree name))
          c.push_key.ensures.adds;
    }

pub loop-left-preserved : goal.loop-left-preserved
loop-left-preserved c =
    let tree = c.args.table.now.tree in
    let keys = c.args.table.now.keys.items in
    let text = spelled c.args.name.now in
    let before = c.loop-left.invariant in
    let left = c.loop-left.left - 1 in
    let next = c.next_of-at.result in
    let here : c.loop-left.left ≡ left + 1 = omega (arith, c.loop-left-test.true) in
    let after : IsAt tree (drop left text) next =
    is_at-more tree c.args.name.now left c.loop-left.at next (omega (arith, here, before.within))
    (subst (λ n. IsAt tree (drop n text) c.loop-left.at) here before.leads)
    (ap (next_of tree c.loop-left.at) (sym c.symbol_of.ensures.symbol) ∙ sym c.next_of-at.ensures.next) (omega (arith, c.if-at-eq0.false))
    in
    record {
      steps =
          omega (arith, here, before.steps, c.in_ok-push_key-2.ensures.steps, ap (λ (m : Meter). m.nodes) c.add_node.ensures.added);
      bytes = omega (arith, c.in_ok-push_key-2.ensures.bytes, ap (λ (m : Meter). m.bytes) c.add_node.ensures.added, before.bytes);
      within = omega (arith, before.within);
      node = c.next_of-at.ensures.within;
      leads = after;
      gathered =
          gathers-both keys (EndsFrom tree text (left + 1)) (λ key. key ≡ node_key next) (EndsFrom tree text left) _ _ _
          (λ key. ends-more tree text left next key after)
          (subst (λ n. GathersPlaces (EndsFrom tree text n) keys c.args.found.now.items c.loop-left.found.items) here before.gathered)
          c.in_ok-push_key-2.ensures.walks;
      adds =
          adds-more tree text c.requires.is_tree keys _ _ _ left next
          (omega (arith, here, before.within, length-map c.args.name.now symbol)) after
          (subst (λ n. AddsPlaces (EndsFrom tree text n) keys c.args.found.now.items c.loop-left.found.items) here before.adds)
          c.push_key-in-loop-left.ensures.adds;
    }

pub returns-in_err-push_key-2-clause-adds : goal.returns-in_err-push_key-2-clause-adds
returns-in_err-push_key-2-clause-adds c =
    let tree = c.args.table.now.tree in
    let keys = c.args.table.now.keys.items in
    let text = spelled c.args.name.now in
    let before = c.loop-left.invariant in
    let left = c.loop-left.left - 1 in
    let next = c.next_of-at.result in
    let here : c.loop-left.left ≡ left + 1 = omega (arith, c.loop-left-test.true) in
    let after : IsAt tree (drop left text) next =
    is_at-more tree c.args.name.now left c.loop-left.at next (omega (arith, here, before.within))
    (subst (λ n. IsAt tree (drop n text) c.loop-left.at) here before.leads)
    (ap (next_of tree c.loop-left.at) (sym c.symbol_of.ensures.symbol) ∙ sym c.next_of-at.ensures.next) (omega (arith, c.if-at-eq0.false))
    in
    adds-ends tree text keys _ _ left
    (adds-more tree text c.requires.is_tree keys _ _ _ left next (omega (arith, here, before.within, length-map c.args.name.now symbol))
    after
    (subst (λ n. AddsPlaces (EndsFrom tree text n) keys c.args.found.now.items c.loop-left.found.items) here before.adds)
    c.push_key-in-loop-left.ensures.adds)

pub returns-then-at-eq0-clause-gathers : goal.returns-then-at-eq0-clause-gathers
returns-then-at-eq0-clause-gathers c =
    let tree = c.args.table.now.tree in
    let keys = c.args.table.now.keys.items in
    let name = c.args.name.now in
    let text = spelled name in
    let before = c.loop-left.invariant in
    let left = c.loop-left.left - 1 in
    let here : c.loop-left.left ≡ left + 1 = omega (arith, c.loop-left-test.true) in
    let s = symbol (get_or name left 0) in
    let is : drop left text ≡ s ∷ drop (left + 1) text = spelled-more name left (omega (arith, here, before.within)) in
    let leads : IsAt tree (drop (left + 1) text) c.loop-left.at = subst (λ n. IsAt tree (drop n text) c.loop-left.at) here before.leads in
    let none : next_of tree c.loop-left.at s ≡ 0 =
    ap (next_of tree c.loop-left.at) (sym c.symbol_of.ensures.symbol) ∙ sym c.next_of-at.ensures.next ∙ c.if-at-eq0.true in
    gathers-weaker keys (EndsFrom tree text (left + 1)) (IsEndKey tree text) _ _ (ends-miss tree text left c.loop-left.at s is leads none)
    (subst (λ n. GathersPlaces (EndsFrom tree text n) keys c.args.found.now.items c.loop-left.found.items) here before.gathered)

pub returns-then-at-eq0-clause-adds : goal.returns-then-at-eq0-clause-adds
returns-then-at-eq0-clause-adds c =
    adds-ends c.args.table.now.tree (spelled c.args.name.now) c.args.table.now.keys.items _ _ c.loop-left.left c.loop-left.invariant.adds

pub returns-in_ok-push_key-3-clause-gathers : goal.returns-in_ok-push_key-3-clause-gathers
returns-in_ok-push_key-3-clause-gathers = whole.found-gathers

pub returns-in_ok-push_key-3-clause-adds : goal.returns-in_ok-push_key-3-clause-adds
returns-in_ok-push_key-3-clause-adds = whole.found-adds

pub returns-in_err-push_key-3-clause-adds : goal.returns-in_err-push_key-3-clause-adds
returns-in_err-push_key-3-clause-adds = whole.stopped-adds

pub returns-else-whole-gt0-clause-gathers : goal.returns-else-whole-gt0-clause-gathers
returns-else-whole-gt0-clause-gathers = whole.none-gathers

pub returns-else-whole-gt0-clause-adds : goal.returns-else-whole-gt0-clause-adds
returns-else-whole-gt0-clause-adds = whole.none-adds
