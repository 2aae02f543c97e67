-- How many places a name asks for: those of rules near it, and for each of its symbols one more.
use Rattle.std.proofs.Common.{◌≡◌, ◌≢◌, ◌⊎◌, inl, inr, ℕ, suc, ◌+◌, ◌<◌, ◌≤◌, Bool, true, false, not, ◌&&◌, List, [], ◌∷◌, length}
use Rattle.std.proofs.Common.{get_or, map}
use Rattle.std.proofs.Common.{refl, sym, ap, subst, ◌∙◌, arith}
use Rattle.std.specs.List.{All, AllPairs, Contains, filter}
use Rattle.std.proofs.lemmas.Bool.{and_from, not-true, true≢false}
use Rattle.std.proofs.lemmas.List.{get_or-map, get_or_default, length-map}
use Rattle.std.proofs.lemmas.List.Filters.{length-filter_both}
use Rattle.std.proofs.lemmas.List.Kept.{AllPairs-filter}
use Rattle.mime_names.specs.Chains.{AreBelow}
use Rattle.mime_names.specs.Keys.{Fronts, IsEndKey, IsNewKey, IsTableOf}
use Rattle.mime_names.specs.Near.{is_near, near_rule}
use Rattle.mime_names.specs.Rules.{IsIndexedRule, pattern_of, plain}
use Rattle.mime_names.specs.Tree.{spelled, symbol}
use Rattle.mime_names.specs.declared.indexed_rule.IndexedRule.{IndexedRule}
use Rattle.mime_names.specs.declared.keys.KeyTable.{KeyTable}
use Rattle.mime_names.proofs.DistinctLemmas.{distinct-le, filter-has, length-places_of, map-has, places_of, places_of-has, rising-distinct}
use Rattle.mime_names.proofs.NearLemmas.{some_rule}
use Rattle.mime_names.proofs.WholeLemmas.{keys_on, keys_on-has, length-keys_on, near-whole}

module _ (table : KeyTable) (patterns : List ℕ) (rules : List IndexedRule) (is : IsTableOf table patterns rules)
    (own : All (IsIndexedRule patterns) rules) (name : List ℕ) (part : IndexedRule → Bool) where
  -- whether a rule is one of the part and near the name
  abbrev near : IndexedRule → Bool
  near rule = part rule && near_rule name (plain patterns rule)

  -- whether the rule at a place is
  abbrev near_at : ℕ → Bool
  near_at p = get_or (map near rules) p false

  -- whether it isn't
  abbrev far_at : ℕ → Bool
  far_at p = not (near_at p)

  -- the key of the rule at a place
  abbrev key_at : ℕ → ℕ
  key_at p = get_or table.keys.items p 0

  -- the keys for which the name asks
  abbrev Asks : ℕ → Type 0
  Asks key = IsEndKey table.tree (spelled name) key ⊎ Fronts name key

  -- those of nodes on its way
  abbrev way : List ℕ
  way = keys_on table.tree (0 ∷ spelled name)

  -- a new key for which it asks is one of these
  on_way : (p : ℕ) → IsNewKey table.keys.items p → Asks (key_at p) → Contains way (key_at p)
  on_way p new (inl (inl ends)) =
      subst (Contains way) (sym ends.3)
      (keys_on-has table.tree (0 ∷ spelled name) (suc ends.0) ends.1 ends.4 (omega (arith, ends.3, new.0)))
  on_way p new (inl (inr whole)) =
      subst (Contains way) (sym whole.1)
      (keys_on-has table.tree (0 ∷ spelled name) 0 whole.0 whole.2 (omega (arith, whole.1, new.0)))
  on_way p new (inr (inl any)) = absurd (omega (arith, any, new.0))
  on_way p new (inr (inr begins)) = absurd (omega (arith, begins.0, new.0))

  module _ (places : List ℕ) (below : AreBelow (length table.keys.items) places) (once : AllPairs (λ p q. p ≢ q) places)
      (asked : (p : ℕ) (rule : IndexedRule) → p < length rules → rule ≡ get_or rules p rule → Contains places p →
      (part rule ≡ true) × Asks (key_at p)) where
    -- a place is one of a rule
    rule-at : (p : ℕ) → Contains places p → (rule : IndexedRule) × (p < length rules) × (rule ≡ get_or rules p rule)
    rule-at p has =
        let within : p < length rules = omega (arith, below has.0 has.1, get_or_default places has.0 p 0 has.1, has.2, is.keyed.many) in
        let d : IndexedRule = some_rule rules (omega (arith, within)) in
        (get_or rules p d, within, get_or_default rules p d (get_or rules p d) within)

    -- a rule that is far from the name has a new key, which is on its way
    far-new : (p : ℕ) → Contains places p → far_at p ≡ true → IsNewKey table.keys.items p × Contains way (key_at p)
    far-new p has far =
        let at = rule-at p has in
        let rule : IndexedRule = at.0 in
        let asks = asked p rule at.1 at.2 has in
        let pattern : List ℕ = pattern_of patterns rule in
        let indexed : IsIndexedRule patterns rule = subst (IsIndexedRule patterns) (sym at.2) (own p rule at.1) in
        let here : near_at p ≡ near rule = get_or-map near rules p rule false at.1 ∙ ap near (sym at.2) in
        elim (is.keyed.whole p rule at.1 at.2) [
          | inl whole ↦ (let low = (is.keyed.each p rule at.1 at.2).others in
              let close = near-whole table.tree is.keyed.is_tree rule.class pattern name (key_at p) low whole asks.1 in
              let both = and_from (part rule) _ asks.0 (ap (λ class. is_near class pattern name) (sym indexed.class) ∙ close) in
              absurd (true≢false (sym (here ∙ both) ∙ not-true (near_at p) far)))
          | inr new ↦ (new, on_way p new asks.1)
        ]

    -- those near the name
    near-places : length (filter near_at places) ≤ length (filter near rules)
    near-places =
        let fewer =
        distinct-le (filter near_at places) (places_of (map near rules) 0) (AllPairs-filter (λ p q. p ≢ q) near_at places once)
        (λ p has. subst (Contains (places_of (map near rules) 0)) {x = 0 + p} {y = p} (omega arith)
        (places_of-has (map near rules) 0 p (filter-has near_at places p has).1)) in
        omega (arith, fewer, length-places_of near rules 0)

    -- those far from it
    far-places : length (filter far_at places) ≤ length name + 1
    far-places =
        let far = filter far_at places in
        let fewer =
        distinct-le (map key_at far) way
        (rising-distinct key_at far (AllPairs-filter (λ p q. p ≢ q) far_at places once)
        (λ p q has less. (let both = filter-has far_at places q has in (far-new q both.0 both.1).0.1 p less)))
        (λ k has. (let from = map-has key_at far k has in
        let both = filter-has far_at places from.0 from.1 in
        subst (Contains way) from.2 (far-new from.0 both.0 both.1).1)) in
        omega (arith, fewer, length-map far key_at, length-keys_on table.tree (0 ∷ spelled name), length-map name symbol)

    -- where no key is one of a node none is far from it
    pub count-fronts : ((p : ℕ) → Contains places p → key_at p < 257) → length places ≤ length (filter near rules)
    count-fronts low =
        let none =
        distinct-le (filter far_at places) [] (AllPairs-filter (λ p q. p ≢ q) far_at places once)
        (λ p has. (let both = filter-has far_at places p has in absurd (omega (arith, low p both.0, (far-new p both.0 both.1).0.0)))) in
        omega (arith, length-filter_both near_at far_at (λ p. refl) places, near-places, none)

    -- both
    pub count-places : length places ≤ length name + 1 + length (filter near rules)
    count-places = omega (arith, length-filter_both near_at far_at (λ p. refl) places, near-places, far-places)
