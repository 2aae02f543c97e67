-- The nodes of an index that a name costs: its rules' types went one alias step, which changes none; and those of each order.
use Rattle.std.proofs.Common.{◌≡◌, ℕ, ◌+◌, ◌<◌, ◌≤◌, Bool, true, false, if◌then◌else◌, ◌&&◌, List, length, map, refl, ap}
use Rattle.std.proofs.Common.{◌∙◌, arith}
use Rattle.std.specs.List.{filter}
use Rattle.std.proofs.lemmas.Bool.{ltb-true}
use Rattle.std.proofs.lemmas.List.{length-map}
use Rattle.mime_base.specs.Kept.{hits}
use Rattle.mime_base.specs.Matching.Matches.{rule_matches}
use Rattle.mime_base.specs.declared.database.rule.GlobRule.{GlobRule}
use Rattle.mime_lookup.specs.Indexed.{unaliased_rule}
use Rattle.mime_lookup.specs.IndexNodes.{all_nodes, has_text, kept_nodes, nodes_after, nodes_before, order_nodes}
use Rattle.mime_lookup.specs.declared.order.Order.{Order}
use Rattle.mime_lookup.specs.declared.order.Order.TheVariants.{AllGlobs, ContentOnly, GlobsFirst, MagicFirst}
use Rattle.mime_lookup.proofs.IndexLemmas.LentRules.{filter-map}
use Rattle.mime_names.specs.Near.{near_nodes, near_rule, near_rules, near_texts}
use Rattle.mime_names.specs.Rules.{is_text_rule}

module _ (aliases : List (List ℕ × List ℕ)) (names rules : List GlobRule) (name : List ℕ)
    (are : names ≡ map (unaliased_rule aliases) rules) (old new : ℕ) where
  -- a test that a rule's type is nothing to passes as many
  pub passing : (p : GlobRule → Bool) →
      length (filter p (map (unaliased_rule aliases) rules)) ≡ length (filter (λ rule. p (unaliased_rule aliases rule)) rules)
  passing p =
      ap length (filter-map (unaliased_rule aliases) p rules)
      ∙ length-map (filter (λ rule. p (unaliased_rule aliases rule)) rules) (unaliased_rule aliases)

  -- as many are near
  pub near-same : near_rules name names ≡ near_rules name rules
  near-same = ap (near_rules name) are ∙ passing (near_rule name)

  -- and as many texts
  pub texts-same : near_texts name names ≡ near_texts name rules
  texts-same = ap (near_texts name) are ∙ passing (λ rule. is_text_rule rule && near_rule name rule)

  -- as many texts match
  pub hits-same : length (filter is_text_rule (hits names name)) ≡ length (filter is_text_rule (hits rules name))
  hits-same =
      ap (λ rs. length (filter is_text_rule (hits rs name))) are
      ∙ ap (λ found. length (filter is_text_rule found))
      (filter-map (unaliased_rule aliases) (λ rule. rule_matches rule.pattern rule.cased name) rules)
      ∙ ap length (filter-map (unaliased_rule aliases) is_text_rule (hits rules name))
      ∙ length-map (filter is_text_rule (hits rules name)) (unaliased_rule aliases)

  -- the kept rules
  pub kept-nodes : new ≤ old + near_nodes (length name) (near_rules name names) →
      (0 < length (filter is_text_rule (hits names name)) → new ≤ old + near_nodes (length name) (near_texts name names)) →
      new ≤ old + kept_nodes rules name
  kept-nodes near texts = by_cases (has_text rules name) refl
    where
      by_cases : (has : Bool) → has_text rules name ≡ has →
          new ≤ old + near_nodes (length name) (if has then near_texts name rules else near_rules name rules)
      by_cases true has = omega (arith, texts (omega (arith, ltb-true 0 _ has, hits-same)), texts-same)
      by_cases false none = omega (arith, near, near-same)

  -- and all that match
  pub all-nodes : new ≤ old + near_nodes (length name) (near_rules name names) → new ≤ old + all_nodes rules name
  all-nodes near = omega (arith, near, near-same)

-- what an order costs in all, where the content isn't asked alone
pub order-nodes : (order : Order) (kept all old named asked : ℕ) → (order ≡ ContentOnly → ⊥) → named ≤ old + nodes_before order kept all →
    asked ≤ named + nodes_after order kept → asked ≤ old + order_nodes order kept all
order-nodes GlobsFirst kept all old named asked some before after = omega (arith, before, after)
order-nodes MagicFirst kept all old named asked some before after = omega (arith, before, after)
order-nodes AllGlobs kept all old named asked some before after = omega (arith, before, after)
order-nodes ContentOnly kept all old named asked some before after = absurd (some refl)
