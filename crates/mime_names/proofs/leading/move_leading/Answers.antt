use Rattle.std.proofs.Common.{◌≡◌, Contains, ◌<◌, ◌∷◌, ◌++◌, [], Bool, true, false, length, get_or, map, subst, take, take_all, refl, sym, ap, ◌∙◌, arith}
use Rattle.std.proofs.lemmas.List.Elements.{Contains-get_or}
use Rattle.mime_base.specs.Kept.{best}
use Rattle.mime_names.specs.Leading.{IsLeader}
use Rattle.mime_names.specs.Places.{AreNear}
use Rattle.mime_names.specs.Rules.{IsIndexedRule, hits_of, is_match, offer_of}
use Rattle.mime_names.specs.declared.indexed_rule.IndexedRule.{IndexedRule}
use Rattle.mime_names.proofs.ByteLemmas.{compares-none, compares-rule}
use Rattle.mime_names.proofs.KeptLemmas.{best-kinds, offers-hit}
use Rattle.mime_names.proofs.LeadingLemmas.{leader-kinds}
use Rattle.mime_names.proofs.NearLemmas.{miss_more, passed}
use Rattle.mime_names.proofs.RepeatLemmas.{matched-before, matched-here}
use Rattle.mime_names.proofs.leading.move_leading.Goals as goal
use Rattle.mime_names.proofs.leading.move_leading.Goals.{then-from-place, then-is_match_after, else-is_match_after, else-from-place}

pub loop-near-init : goal.loop-near-init
loop-near-init c = record {
  leads = λ part near. record { best = refl; none = λ none. refl };
  matched = λ p rule none is. absurd (omega (arith, none));
  count = omega arith;
  long = refl;
  rest = λ j past. refl;
  low = c.requires.below;
  within = omega arith;
  past = λ j less. absurd (omega (arith, less));
  nodes = refl;
  bytes = compares-none _ _ _ _ _;
}

pub loop-near-preserved : goal.loop-near-preserved
loop-near-preserved c =
    let patterns = c.args.patterns.now in
    let rules = c.args.rules.now in
    let name = c.args.name.now in
    let places = c.args.places.now in
    let i = c.loop-near.near in
    let before = c.loop-near.invariant in
    let inside : i < length places = omega (arith, c.loop-near-test.true, before.long) in
    let place = get_or c.loop-near.places i 0 in
    let here : place ≡ get_or places i 0 = before.rest i (omega arith) in
    elim c.if-from-place.branch [
      | then-from-place w ↦
          (let rule = w.rule_at-rule.result.now in
          let low : place < length rules = before.low i (omega (arith, c.loop-near-test.true)) in
          let skipped : (part : IndexedRule → Bool) → AreNear patterns part rules name places →
          hits_of patterns part (take place rules) name ≡ hits_of patterns part (take c.loop-near.from rules) name =
          λ part near. passed patterns part rules name places near c.loop-near.from place i before.past
          (λ j order within. omega (arith, here, near.rise i j 0 order within)) w.if-from-place.true (omega (arith, low)) in
          let indexed : IsIndexedRule patterns rule = subst (IsIndexedRule patterns) (sym w.rule_at-rule.ensures) (c.requires.own place rule low) in
          let offered : (rule.rank, rule.kind) ≡ offer_of patterns rule = ap (λ n. (n, rule.kind)) indexed.rank in
          record {
            leads = λ part near. elim w.if-is_match_after.branch [
              | then-is_match_after v ↦
                  (let own = near.only place rule (subst (λ n. Contains places n) (sym here) (Contains-get_or places i 0 inside)) w.rule_at-rule.ensures in
                  let hit : is_match patterns name rule ≡ true = sym w.is_match_after.ensures.exact ∙ v.if-is_match_after.true in
                  rw (w.from-is, w.leader-is, v.leader-is, w.places-is, v.places-is)
                  (subst (IsLeader rules v.offer-leader.new.places v.offer-leader.result)
                  (ap (λ offer. map (offer_of patterns) (hits_of patterns part (take c.loop-near.from rules) name) ++ offer ∷ []) offered
                  ∙ sym (offers-hit patterns part rules name place c.loop-near.from rule low w.rule_at-rule.ensures own hit (skipped part near)))
                  (v.offer-leader.ensures.leads rules rule (map (offer_of patterns) (hits_of patterns part (take c.loop-near.from rules) name)) low
                  w.rule_at-rule.ensures (before.leads part near))))
              | else-is_match_after v ↦
                  (let miss : is_match patterns name rule ≡ false = sym w.is_match_after.ensures.exact ∙ v.if-is_match_after.false in
                  rw (w.from-is, w.leader-is, v.leader-is, w.places-is, v.places-is, miss_more patterns part rules name place rule low w.rule_at-rule.ensures miss, skipped part near)
                  (before.leads part near))
            ];
            matched = elim w.if-is_match_after.branch [
              | then-is_match_after v ↦ rw (w.matched-is, v.matched-is)
                  (matched-here patterns rules name place rule low w.rule_at-rule.ensures (sym w.is_match_after.ensures.exact ∙ v.if-is_match_after.true))
              | else-is_match_after v ↦ rw (w.matched-is, v.matched-is) before.matched
            ];
            count = elim w.if-is_match_after.branch [
              | then-is_match_after v ↦ rw (w.leader-is, v.leader-is) (omega (arith, v.offer-leader.ensures.count, before.count))
              | else-is_match_after v ↦ rw (w.leader-is, v.leader-is) (omega (arith, before.count))
            ];
            long = elim w.if-is_match_after.branch [
              | then-is_match_after v ↦ rw (w.places-is, v.places-is) (v.offer-leader.ensures.long ∙ before.long)
              | else-is_match_after v ↦ rw (w.places-is, v.places-is) before.long
            ];
            rest = λ j past. elim w.if-is_match_after.branch [
              | then-is_match_after v ↦ rw (w.places-is, v.places-is)
                  (v.offer-leader.ensures.rest j (omega (arith, before.count, past)) ∙ before.rest j (omega (arith, past)))
              | else-is_match_after v ↦ rw (w.places-is, v.places-is) (before.rest j (omega (arith, past)))
            ];
            low = elim w.if-is_match_after.branch [
              | then-is_match_after v ↦ rw (w.places-is, v.places-is) (v.offer-leader.ensures.below (length rules) low before.low)
              | else-is_match_after v ↦ rw (w.places-is, v.places-is) before.low
            ];
            within = omega (arith, w.from-is, low);
            past = λ j less. omega (arith, w.from-is, here, c.requires.rise j i 0 (omega (arith, less)) inside);
            nodes = rw w.meter-is (w.is_match_after.ensures.nodes ∙ before.nodes);
            bytes = rw (w.from-is, w.meter-is)
                (compares-rule patterns rules c.requires.own name place rule low w.rule_at-rule.ensures places c.args.meter.now.bytes
                c.loop-near.from c.loop-near.meter.bytes w.is_match_after.new.meter.bytes w.if-from-place.true
                (subst (λ n. Contains places n) (sym here) (Contains-get_or places i 0 inside))
                before.bytes w.is_match_after.ensures.bytes w.is_match_after.ensures.text_bytes);
          })
      | else-from-place w ↦ record {
        leads = λ part near. rw (w.from-is, w.leader-is, w.places-is) (before.leads part near);
        matched = rw w.matched-is before.matched;
        count = rw w.leader-is (omega (arith, before.count));
        long = rw w.places-is before.long;
        rest = λ j past. rw w.places-is (before.rest j (omega (arith, past)));
        low = rw w.places-is before.low;
        within = rw w.from-is before.within;
        past = λ j less. omega (arith, w.from-is, here, c.requires.rise j i 0 (omega (arith, less)) inside, w.if-from-place.false);
        nodes = rw w.meter-is before.nodes;
        bytes = rw (w.from-is, w.meter-is) before.bytes;
      }
    ]

pub is_match_after-requires-clause-repeated : goal.is_match_after-requires-clause-repeated
is_match_after-requires-clause-repeated c = λ repeats at.
    let rules = c.args.rules.now in
    let place = get_or c.loop-near.places c.loop-near.near 0 in
    let low : place < length rules = c.loop-near.invariant.low c.loop-near.near (omega (arith, c.loop-near-test.true, c.loop-near.invariant.long)) in
    matched-before c.args.patterns.now rules c.args.name.now place c.rule_at-rule.result.now low c.rule_at-rule.ensures
    c.loop-near.matched c.requires.repeated at repeats c.loop-near.invariant.matched

pub returns-clause-leading : goal.returns-clause-leading
returns-clause-leading c = λ part near.
    let patterns = c.args.patterns.now in
    let rules = c.args.rules.now in
    let name = c.args.name.now in
    let places = c.args.places.now in
    let before = c.loop-near.invariant in
    let all : hits_of patterns part (take c.loop-near.from rules) name ≡ hits_of patterns part rules name =
    sym (passed patterns part rules name places near c.loop-near.from (length rules) c.loop-near.near before.past
    (λ j order within. absurd (omega (arith, order, within, before.long, c.loop-near-test.false))) before.within (omega arith))
    ∙ ap (λ rs. hits_of patterns part rs name) (take_all (length rules) rules (omega arith)) in
    leader-kinds rules c.loop-near.places c.loop-near.leader (map (offer_of patterns) (hits_of patterns part (take c.loop-near.from rules) name)) (before.leads part near)
    ∙ ap (λ found. map (λ offer. offer.1) (best (map (offer_of patterns) found))) all
    ∙ best-kinds patterns (hits_of patterns part rules name)

pub returns-clause-bytes : goal.returns-clause-bytes
returns-clause-bytes c = c.loop-near.invariant.bytes.so_far
