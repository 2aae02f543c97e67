use Rattle.std.proofs.Common.{◌≡◌, ◌+◌, take, take_all, true, false, sym, ◌∙◌, arith}
use Rattle.mime_base.specs.Kept.{hits}
use Rattle.mime_base.specs.Matching.Matches.{rule_matches}
use Rattle.mime_lookup.proofs.OrderLemmas.Hits.{keeps_more, keeps_all, hit_more, miss_more}
use Rattle.mime_lookup.proofs.IndexLemmas.IndexBytes.{tried-all, tried-more}
use Rattle.mime_lookup.proofs.kept.kept_rules.Goals as goal
use Rattle.mime_lookup.proofs.kept.kept_rules.Goals.{then-glob_matches+in_ok-offer, else-glob_matches}

pub loop-rule-preserved : goal.loop-rule-preserved
loop-rule-preserved c =
    let rules = c.args.rules.now in
    let name = c.args.name.now in
    let rule = c.rule-item.result in
    let i = c.loop-rule.rule-index in
    record {
      kept = elim c.if-glob_matches.branch [
        | then-glob_matches+in_ok-offer w ↦
            (let hit : rule_matches rule.pattern rule.cased name ≡ true =
            rw c.bytes.ensures.text at (sym c.glob_matches.ensures.answer ∙ w.if-glob_matches.true) in
            rw (hit_more rules name i rule c.loop-rule-test.true c.rule-item.is hit, w.best-is)
            (keeps_more c.loop-rule.best w.offer.new.self (hits (take i rules) name) w.rank_of_rule.result _ c.loop-rule.invariant.kept
            w.rank_of_rule.ensures.rank w.rank_of_rule.ensures.limits w.in_ok-offer.ensures.kept))
        | else-glob_matches w ↦
            (let miss : rule_matches rule.pattern rule.cased name ≡ false =
            rw c.bytes.ensures.text at (sym c.glob_matches.ensures.answer ∙ w.if-glob_matches.false) in
            rw (miss_more rules name i rule c.loop-rule-test.true c.rule-item.is miss, w.best-is) c.loop-rule.invariant.kept)
      ];
      nodes = c.glob_matches.ensures.nodes ∙ c.loop-rule.invariant.nodes;
      bytes =
          tried-more rules name i rule c.loop-rule-test.true c.rule-item.is c.args.meter.now.bytes c.loop-rule.meter.bytes
          c.glob_matches.new.meter.bytes c.loop-rule.invariant.bytes (rw c.bytes.ensures.text at c.glob_matches.ensures.cost);
    }

pub returns-clause-kept : goal.returns-clause-kept
returns-clause-kept c =
    rw c.into_items.ensures
    (keeps_all c.loop-rule.best c.args.rules.now c.args.name.now
    (rw (take_all c.loop-rule.rule-index c.args.rules.now c.loop-rule-test.false) at c.loop-rule.invariant.kept))

pub returns-in_err-offer-clause-bytes : goal.returns-in_err-offer-clause-bytes
returns-in_err-offer-clause-bytes c =
    let rules = c.args.rules.now in
    let name = c.args.name.now in
    let i = c.loop-rule.rule-index in
    tried-all rules name (i + 1) (omega (arith, c.loop-rule-test.true)) c.args.meter.now.bytes c.glob_matches.new.meter.bytes
    (tried-more rules name i c.rule-item.result c.loop-rule-test.true c.rule-item.is c.args.meter.now.bytes c.loop-rule.meter.bytes
    c.glob_matches.new.meter.bytes c.loop-rule.invariant.bytes (rw c.bytes.ensures.text at c.glob_matches.ensures.cost))
