use Rattle.std.proofs.Common.{◌≡◌, ◌⊎◌, length, map, ap, ◌∙◌, arith}
use denote.Bor.{Bor}
use Rattle.mime_base.specs.Kept.{candidate_rules, kept_rules}
use Rattle.mime_base.specs.declared.database.rule.GlobRule.{GlobRule}
use Rattle.mime_names.specs.Index.{PlainIndex}
use Rattle.mime_names.specs.Rules.{every, hits_of, parts_of}
use Rattle.mime_names.specs.declared.indexed_rule.IndexedRule.{IndexedRule}
use Rattle.mime_names.proofs.RankedLemmas.{given-sorted, kept-given, kept-own, own-sorted}
use Rattle.mime_names.proofs.TableLemmas.{near-every}
use Rattle.mime_names.specs.Keys.{Fronts, IsEndKey}
use Rattle.mime_names.specs.Places.{is_text_at}
use Rattle.mime_names.specs.Tree.{spelled}
use Rattle.mime_names.proofs.KeyByteLemmas.{compares-keys, every-bytes}
use Rattle.mime_names.proofs.NodeLemmas.{every-near}
use Rattle.mime_names.proofs.ranked.ranked_rules.Goals as goal
use Rattle.mime_names.proofs.ranked.ranked_rules.Goals.{Joined-places-3}

-- what is found is all that matches
found_all : (c : Joined-places-3) →
    map (λ (rule : Bor IndexedRule). rule.now) c.in_ok-found.found.items
    ≡ hits_of c.index.inside.patterns.items (every c.index.inside.patterns.items) c.index.inside.rules.items c.args.name.now
found_all c =
    let patterns = c.index.inside.patterns.items in
    let rules = c.index.inside.rules.items in
    let near = near-every c.index.inside.table patterns rules c.index.invariant.keyed c.index.invariant.own c.args.name.now c.in_ok-places.places.items c.in_ok-places.ensures.near in
    (rw (c.deref.ensures.value, c.deref-2.ensures.value, c.deref-3.ensures) at (c.in_ok-found.ensures.found (every patterns))) near

pub returns-clause-own : goal.returns-clause-own
returns-clause-own c =
    own-sorted c.index.inside.patterns.items c.index.inside.rules.items c.args.name.now c.index.invariant.own
    c.in_ok-found.found.items (found_all c) c.in_ok-rules.rules.items c.in_ok-rules.ensures
    ∙ ap (λ (index : PlainIndex). map parts_of (candidate_rules index.own c.args.name.now)) c.index.view_is

pub returns-clause-given : goal.returns-clause-given
returns-clause-given c =
    given-sorted c.index.inside.patterns.items c.index.inside.rules.items c.args.name.now c.index.invariant.own
    c.in_ok-found.found.items (found_all c) c.in_ok-rules.rules.items c.in_ok-rules.ensures
    ∙ ap (λ (index : PlainIndex). map (λ (rule : GlobRule). rule.kind) (candidate_rules index.given c.args.name.now)) c.index.view_is

pub returns-clause-kept : goal.returns-clause-kept
returns-clause-kept c =
    c.count_best-kept.ensures c.in_ok-found.found.items (c.deref-4.ensures.value ∙ c.in_ok-rules.ensures)
    ∙ kept-given c.index.inside.patterns.items c.index.inside.rules.items c.args.name.now c.index.invariant.own
    c.in_ok-found.found.items (found_all c)
    ∙ ap (λ (index : PlainIndex). length (kept_rules index.given c.args.name.now)) c.index.view_is

pub returns-clause-own_kept : goal.returns-clause-own_kept
returns-clause-own_kept c =
    c.count_best-kept.ensures c.in_ok-found.found.items (c.deref-4.ensures.value ∙ c.in_ok-rules.ensures)
    ∙ kept-own c.index.inside.patterns.items c.index.inside.rules.items c.args.name.now c.index.invariant.own
    c.in_ok-found.found.items (found_all c)
    ∙ ap (λ (index : PlainIndex). length (kept_rules index.own c.args.name.now)) c.index.view_is

pub returns-in_err-places-clause-near : goal.returns-in_err-places-clause-near
returns-in_err-places-clause-near c =
    every-near c.index.inside.patterns.items c.index.inside.rules.items c.index.inside.table c.index.invariant
    c.args.name.now c.args.index.now.given (ap (λ (index : PlainIndex). index.given) c.index.view_is)
    c.args.meter.now.nodes c.all_places.new.meter.nodes c.all_places.ensures.steps

pub returns-in_err-found-clause-near : goal.returns-in_err-found-clause-near
returns-in_err-found-clause-near c =
    let before =
    every-near c.index.inside.patterns.items c.index.inside.rules.items c.index.inside.table c.index.invariant
    c.args.name.now c.args.index.now.given (ap (λ (index : PlainIndex). index.given) c.index.view_is)
    c.args.meter.now.nodes c.all_places.new.meter.nodes c.all_places.ensures.steps in
    omega (arith, before, c.matching_rules.ensures.nodes)

pub returns-in_err-rules-clause-near : goal.returns-in_err-rules-clause-near
returns-in_err-rules-clause-near c =
    let before =
    every-near c.index.inside.patterns.items c.index.inside.rules.items c.index.inside.table c.index.invariant
    c.args.name.now c.args.index.now.given (ap (λ (index : PlainIndex). index.given) c.index.view_is)
    c.args.meter.now.nodes c.all_places.new.meter.nodes c.all_places.ensures.steps in
    omega (arith, before, c.matching_rules.ensures.nodes)

pub returns-clause-near : goal.returns-clause-near
returns-clause-near c =
    let before =
    every-near c.index.inside.patterns.items c.index.inside.rules.items c.index.inside.table c.index.invariant
    c.args.name.now c.args.index.now.given (ap (λ (index : PlainIndex). index.given) c.index.view_is)
    c.args.meter.now.nodes c.all_places.new.meter.nodes c.all_places.ensures.steps in
    omega (arith, before, c.matching_rules.ensures.nodes)

pub returns-in_err-found-clause-bytes : goal.returns-in_err-found-clause-bytes
returns-in_err-found-clause-bytes c =
    let patterns = c.index.inside.patterns.items in
    let rules = c.index.inside.rules.items in
    let compared = rw (c.deref.ensures.value, c.deref-2.ensures.value, c.deref-3.ensures) at c.matching_rules.ensures.bytes in
    let bytes =
    every-bytes patterns rules c.index.inside.table c.index.invariant c.args.name.now c.args.index.now.given
    (ap (λ (index : PlainIndex). index.given) c.index.view_is) c.all_places.new.meter.bytes c.matching_rules.new.meter.bytes
    (compares-keys (is_text_at patterns rules)
    (λ key. IsEndKey c.index.inside.table.tree (spelled c.args.name.now) key ⊎ Fronts c.args.name.now key)
    c.index.inside.table.keys.items c.in_ok-places.places.items _ _ _ _ c.in_ok-places.ensures.near compared) in
    omega (arith, bytes, c.all_places.ensures.bytes)

pub returns-in_err-rules-clause-bytes : goal.returns-in_err-rules-clause-bytes
returns-in_err-rules-clause-bytes c =
    let patterns = c.index.inside.patterns.items in
    let rules = c.index.inside.rules.items in
    let compared = rw (c.deref.ensures.value, c.deref-2.ensures.value, c.deref-3.ensures) at c.matching_rules.ensures.bytes in
    let bytes =
    every-bytes patterns rules c.index.inside.table c.index.invariant c.args.name.now c.args.index.now.given
    (ap (λ (index : PlainIndex). index.given) c.index.view_is) c.all_places.new.meter.bytes c.matching_rules.new.meter.bytes
    (compares-keys (is_text_at patterns rules)
    (λ key. IsEndKey c.index.inside.table.tree (spelled c.args.name.now) key ⊎ Fronts c.args.name.now key)
    c.index.inside.table.keys.items c.in_ok-places.places.items _ _ _ _ c.in_ok-places.ensures.near compared) in
    omega (arith, bytes, c.all_places.ensures.bytes)

pub returns-clause-bytes : goal.returns-clause-bytes
returns-clause-bytes c =
    let patterns = c.index.inside.patterns.items in
    let rules = c.index.inside.rules.items in
    let compared = rw (c.deref.ensures.value, c.deref-2.ensures.value, c.deref-3.ensures) at c.matching_rules.ensures.bytes in
    let bytes =
    every-bytes patterns rules c.index.inside.table c.index.invariant c.args.name.now c.args.index.now.given
    (ap (λ (index : PlainIndex). index.given) c.index.view_is) c.all_places.new.meter.bytes c.matching_rules.new.meter.bytes
    (compares-keys (is_text_at patterns rules)
    (λ key. IsEndKey c.index.inside.table.tree (spelled c.args.name.now) key ⊎ Fronts c.args.name.now key)
    c.index.inside.table.keys.items c.in_ok-places.places.items _ _ _ _ c.in_ok-places.ensures.near compared) in
    omega (arith, bytes, c.all_places.ensures.bytes)
