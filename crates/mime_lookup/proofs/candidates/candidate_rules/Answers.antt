use Rattle.std.proofs.Common.{◌≡◌, ◌+◌, [], ◌∷◌, ◌++◌, length, map, take_all, true, false, ap, sym, ◌∙◌, arith}
use Rattle.std.proofs.lemmas.List.{length-map, map-append}
use denote.Bor.{Bor}
use Rattle.mime_base.specs.Falling.{falling}
use Rattle.mime_base.specs.Kept.{candidate_rules, hits, kept_rules, of_greatest, rank_of_rule}
use Rattle.mime_base.specs.Matching.Matches.{rule_matches}
use Rattle.mime_base.specs.declared.database.rule.GlobRule.{GlobRule}
use Rattle.mime_base.proofs.FallingLemmas.Order.{falling-map}
use Rattle.mime_base.proofs.KeptLemmas.{of_greatest-rank_of_rule}
use Rattle.mime_base.proofs.KeptLemmas.Greatest.{of_greatest-map}
use Rattle.mime_view.proofs.HitsLemmas.WalkOrder.{hits-fit}
use Rattle.mime_lookup.proofs.OrderLemmas.Hits.{hit_more, miss_more}
use Rattle.mime_lookup.proofs.IndexLemmas.IndexBytes.{tried-all, tried-more}
use Rattle.mime_lookup.proofs.candidates.candidate_rules.Goals as goal
use Rattle.mime_lookup.proofs.candidates.candidate_rules.Goals.{then-glob_matches+in_ok-push, else-glob_matches}

pub loop-rule-preserved : goal.loop-rule-preserved
loop-rule-preserved c =
    let rules = c.args.rules.now in
    let name = c.args.name.now in
    let rule = c.rule-item.result in
    let i = c.loop-rule.rule-index in
    record {
      found = elim c.if-glob_matches.branch [
        | then-glob_matches+in_ok-push w ↦
            (let hit : rule_matches rule.pattern rule.cased name ≡ true =
            rw c.bytes.ensures.text at (sym c.glob_matches.ensures.answer ∙ w.if-glob_matches.true) in
            rw (hit_more rules name i rule c.loop-rule-test.true c.rule-item.is hit, w.found-is, w.in_ok-push.ensures.items)
            (map-append (λ (rule : Bor GlobRule). rule.now) c.loop-rule.found.items _ ∙ ap (λ front. front ++ rule ∷ []) c.loop-rule.invariant.found))
        | else-glob_matches w ↦
            (let miss : rule_matches rule.pattern rule.cased name ≡ false =
            rw c.bytes.ensures.text at (sym c.glob_matches.ensures.answer ∙ w.if-glob_matches.false) in
            rw (miss_more rules name i rule c.loop-rule-test.true c.rule-item.is miss, w.found-is) c.loop-rule.invariant.found)
      ];
      nodes = c.glob_matches.ensures.nodes ∙ c.loop-rule.invariant.nodes;
      bytes =
          tried-more rules name i rule c.loop-rule-test.true c.rule-item.is c.args.meter.now.bytes c.loop-rule.meter.bytes
          c.glob_matches.new.meter.bytes c.loop-rule.invariant.bytes (rw c.bytes.ensures.text at c.glob_matches.ensures.cost);
    }

pub returns-clause-candidates : goal.returns-clause-candidates
unfolding candidate_rules
returns-clause-candidates c =
    let all = take_all c.loop-rule.rule-index c.args.rules.now c.loop-rule-test.false in
    ap (map (λ (rule : Bor GlobRule). rule.now)) c.in_ok-sorted.ensures
    ∙ falling-map (λ (rule : Bor GlobRule). rule.now) rank_of_rule c.loop-rule.found.items
    ∙ ap (falling rank_of_rule) (rw all at c.loop-rule.invariant.found)

pub returns-clause-kept : goal.returns-clause-kept
unfolding kept_rules
returns-clause-kept c = λ fits.
    let all = take_all c.loop-rule.rule-index c.args.rules.now c.loop-rule-test.false in
    let value = λ (rule : Bor GlobRule). rule.now in
    let found = c.loop-rule.found.items in
    let are : map value found ≡ hits c.args.rules.now c.args.name.now = rw all at c.loop-rule.invariant.found in
    c.count_best-kept.ensures found (c.deref.ensures.value ∙ c.in_ok-sorted.ensures)
    ∙ sym (length-map (of_greatest (λ (rule : Bor GlobRule). rank_of_rule rule.now) found) value)
    ∙ ap length (sym (of_greatest-map rank_of_rule value found) ∙ ap (of_greatest rank_of_rule) are
    ∙ of_greatest-rank_of_rule (hits c.args.rules.now c.args.name.now) (hits-fit c.args.rules.now c.args.name.now fits))

pub returns-in_err-push-clause-bytes : goal.returns-in_err-push-clause-bytes
returns-in_err-push-clause-bytes c =
    let rules = c.args.rules.now in
    let name = c.args.name.now in
    let i = c.loop-rule.rule-index in
    tried-all rules name (i + 1) (omega (arith, c.loop-rule-test.true)) c.args.meter.now.bytes c.glob_matches.new.meter.bytes
    (tried-more rules name i c.rule-item.result c.loop-rule-test.true c.rule-item.is c.args.meter.now.bytes c.loop-rule.meter.bytes
    c.glob_matches.new.meter.bytes c.loop-rule.invariant.bytes (rw c.bytes.ensures.text at c.glob_matches.ensures.cost))
