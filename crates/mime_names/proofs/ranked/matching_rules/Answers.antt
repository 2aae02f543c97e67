use Rattle.std.proofs.Common.{◌≡◌, ◌<◌, ◌∷◌, ◌++◌, [], Bool, true, false, length, get_or, map, take, take_all, refl, sym, ap, ◌∙◌, arith, rules}
use Rattle.std.proofs.lemmas.List.{map-append}
use Rattle.std.proofs.lemmas.List.Elements.{Contains-get_or}
use denote.Bor.{Bor}
use Rattle.mime_names.specs.Places.{AreNear}
use Rattle.mime_names.specs.Rules.{hits_of, is_match}
use Rattle.mime_names.specs.declared.indexed_rule.IndexedRule.{IndexedRule}
use Rattle.mime_names.proofs.ByteLemmas.{compares-none, compares-rule}
use Rattle.mime_names.proofs.NearLemmas.{hit_more, miss_more, passed}
use Rattle.mime_names.proofs.ranked.matching_rules.Goals as goal
use Rattle.mime_names.proofs.ranked.matching_rules.Goals.{then-from-place, then-is_match+in_ok-push, else-is_match, else-from-place}

pub loop-near-init : goal.loop-near-init
loop-near-init c = record {
  found = search rules;
  within = omega arith;
  past = λ j less. absurd (omega (arith, less));
  nodes = refl;
  bytes = compares-none _ _ _ _ _;
}

pub loop-near-preserved : goal.loop-near-preserved
loop-near-preserved c =
    let patterns = c.args.patterns.now in
    let rules = c.args.rules.now in
    let name = c.args.name.now in
    let places = c.args.places.now in
    let i = c.loop-near.near in
    let before = c.loop-near.invariant in
    let inside : i < length places = omega (arith, c.loop-near-test.true) in
    let place = get_or places i 0 in
    elim c.if-from-place.branch [
      | then-from-place w ↦
          (let rule = w.rule_at-rule.result.now in
          let low : place < length rules = c.requires.below i inside in
          let skipped : (part : IndexedRule → Bool) → AreNear patterns part rules name places →
          hits_of patterns part (take place rules) name ≡ hits_of patterns part (take c.loop-near.from rules) name =
          λ part near. passed patterns part rules name places near c.loop-near.from place i before.past
          (λ j order within. near.rise i j 0 order within) w.if-from-place.true (omega (arith, low)) in
          record {
            found = λ part near. elim w.if-is_match.branch [
              | then-is_match+in_ok-push v ↦
                  (let own = near.only place rule (Contains-get_or places i 0 inside) w.rule_at-rule.ensures in
                  let hit : is_match patterns name rule ≡ true = sym w.is_match.ensures.exact ∙ v.if-is_match.true in
                  rw (w.from-is, w.found-is, v.found-is)
                  (ap (map (λ (rule : Bor IndexedRule). rule.now)) v.in_ok-push.ensures.items
                  ∙ map-append (λ (rule : Bor IndexedRule). rule.now) c.loop-near.found.items _
                  ∙ ap (λ front. front ++ rule ∷ []) (before.found part near ∙ sym (skipped part near))
                  ∙ sym (hit_more patterns part rules name place rule low w.rule_at-rule.ensures own hit)))
              | else-is_match v ↦
                  (let miss : is_match patterns name rule ≡ false = sym w.is_match.ensures.exact ∙ v.if-is_match.false in
                  rw (w.from-is, w.found-is, v.found-is, miss_more patterns part rules name place rule low w.rule_at-rule.ensures miss, skipped part near)
                  (before.found part near))
            ];
            within = omega (arith, w.from-is, low);
            past = λ j less. omega (arith, w.from-is, c.requires.rise j i 0 (omega (arith, less)) inside);
            nodes = rw w.meter-is (w.is_match.ensures.nodes ∙ before.nodes);
            bytes = rw (w.from-is, w.meter-is)
                (compares-rule patterns rules c.requires.own name place rule low w.rule_at-rule.ensures places c.args.meter.now.bytes
                c.loop-near.from c.loop-near.meter.bytes w.is_match.new.meter.bytes w.if-from-place.true (Contains-get_or places i 0 inside)
                before.bytes w.is_match.ensures.bytes w.is_match.ensures.text_bytes);
          })
      | else-from-place w ↦ record {
        found = λ part near. rw (w.from-is, w.found-is) (before.found part near);
        within = rw w.from-is before.within;
        past = λ j less. omega (arith, w.from-is, c.requires.rise j i 0 (omega (arith, less)) inside, w.if-from-place.false);
        nodes = rw w.meter-is before.nodes;
        bytes = rw (w.from-is, w.meter-is) before.bytes;
      }
    ]

pub returns-clause-found : goal.returns-clause-found
returns-clause-found c = λ part near.
    let patterns = c.args.patterns.now in
    let rules = c.args.rules.now in
    let name = c.args.name.now in
    let places = c.args.places.now in
    let before = c.loop-near.invariant in
    let all : hits_of patterns part (take c.loop-near.from rules) name ≡ hits_of patterns part rules name =
    sym (passed patterns part rules name places near c.loop-near.from (length rules) c.loop-near.near before.past
    (λ j order within. absurd (omega (arith, order, within, c.loop-near-test.false))) before.within (omega arith))
    ∙ ap (λ rs. hits_of patterns part rs name) (take_all (length rules) rules (omega arith)) in
    before.found part near ∙ all

pub returns-clause-bytes : goal.returns-clause-bytes
returns-clause-bytes c = c.loop-near.invariant.bytes.so_far

pub returns-in_err-push-clause-bytes : goal.returns-in_err-push-clause-bytes
returns-in_err-push-clause-bytes c =
    let places = c.args.places.now in
    let i = c.loop-near.near in
    let inside : i < length places = omega (arith, c.loop-near-test.true) in
    (compares-rule c.args.patterns.now c.args.rules.now c.requires.own c.args.name.now (get_or places i 0) c.rule_at-rule.result.now
    (c.requires.below i inside) c.rule_at-rule.ensures places c.args.meter.now.bytes c.loop-near.from c.loop-near.meter.bytes
    c.is_match.new.meter.bytes c.if-from-place.true (Contains-get_or places i 0 inside) c.loop-near.invariant.bytes
    c.is_match.ensures.bytes c.is_match.ensures.text_bytes).so_far
