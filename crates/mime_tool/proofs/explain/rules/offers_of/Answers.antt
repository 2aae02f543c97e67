use Rattle.std.proofs.Common.{◌≡◌, ◌∙◌, ◌++◌, ◌∷◌, [], ◌<◌, true, false, ap, arith, get_or, length, map, subst, sym, take}
use Rattle.std.proofs.lemmas.List.{get_or-map, length-map, map-append}
use Rattle.mime_base.specs.Database.Lent.{plain_rule}
use Rattle.mime_base.specs.Kept.{FitsRank, hits}
use Rattle.mime_base.specs.Matching.Matches.{rule_matches}
use Rattle.mime_base.specs.declared.database.lent.LentRule.{LentRule}
use Rattle.mime_lookup.proofs.OrderLemmas.Hits.{hit_more, miss_more}
use Rattle.mime_tool.specs.ExplainSteps.{offer_of, plain_offer}
use Rattle.mime_tool.proofs.explain.rules.offers_of.Goals as goal
use Rattle.mime_tool.proofs.explain.rules.offers_of.Goals.{then-glob_matches+in_ok-push, else-glob_matches}

-- some rule, lent and plain
abbrev some : LentRule
some = record { weight = 0; kind = record { ref_ptr = (0, 0); now = [] }; pattern = record { ref_ptr = (0, 0); now = [] }; cased = false }

pub rank_of_lent-requires : goal.rank_of_lent-requires
rank_of_lent-requires c =
    let rules = c.args.rules.now in
    let place = c.loop-place.place in
    record {
      limits =
          subst FitsRank (get_or-map plain_rule rules place _ (plain_rule some) c.loop-place-test.true)
          (c.requires.limits place (plain_rule some) (omega (arith, c.loop-place-test.true, length-map rules plain_rule)));
    }

pub loop-place-preserved : goal.loop-place-preserved
loop-place-preserved c =
    let rules = c.args.rules.now in
    let name = c.args.name.now in
    let i = c.loop-place.place in
    let rule = get_or rules i some in
    let plain = map plain_rule rules in
    let within : i < length plain = omega (arith, c.loop-place-test.true, length-map rules plain_rule) in
    let here : plain_rule rule ≡ get_or plain i (plain_rule rule) =
    sym (get_or-map plain_rule rules i some (plain_rule rule) c.loop-place-test.true) in
    let found = hits (take i plain) name in
    elim c.if-glob_matches.branch [
      | then-glob_matches+in_ok-push w ↦
          (let hit : rule_matches rule.pattern.now rule.cased name ≡ true = sym c.glob_matches.ensures.answer ∙ w.if-glob_matches.true in
          let rank = w.rank_of_lent.result in
          rw (hit_more plain name i (plain_rule rule) within here hit, w.offers-is, w.in_ok-push.ensures.items)
          (map-append plain_offer c.loop-place.offers.items ((rank, rule) ∷ [])
          ∙ ap (λ front. front ++ (rank, plain_rule rule) ∷ []) c.loop-place.invariant
          ∙ ap (λ n. map offer_of found ++ (n, plain_rule rule) ∷ []) w.rank_of_lent.ensures
          ∙ sym (map-append offer_of found (plain_rule rule ∷ []))))
      | else-glob_matches w ↦
          (let miss : rule_matches rule.pattern.now rule.cased name ≡ false = sym c.glob_matches.ensures.answer ∙ w.if-glob_matches.false in
          rw (miss_more plain name i (plain_rule rule) within here miss, w.offers-is) c.loop-place.invariant)
    ]
