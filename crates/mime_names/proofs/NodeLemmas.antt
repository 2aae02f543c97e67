-- The nodes that are counted for a name, by the rules near it.
use Rattle.std.proofs.Common.{◌≡◌, ◌⊎◌, inl, inr, ℕ, ◌+◌, ◌*◌, ◌<◌, ◌≤◌, Bool, not, ◌&&◌, List, length, map, refl, sym, ap, ◌∙◌, arith}
use Rattle.std.specs.List.{filter}
use Rattle.std.proofs.lemmas.List.{length-map}
use Rattle.std.proofs.lemmas.List.Filters.{length-filter_both}
use denote.Bor.{Bor}
use Rattle.mime_base.specs.Kept.{hits, of_greatest, rank_of_rule}
use Rattle.mime_base.specs.declared.database.rule.GlobRule.{GlobRule}
use Rattle.mime_names.specs.Index.{IsIndex, rules_of_index}
use Rattle.mime_names.specs.Keys.{Fronts, IsEndKey}
use Rattle.mime_names.specs.Near.{near_nodes, near_others, near_rule, near_rules, near_texts}
use Rattle.mime_names.specs.Places.{CountsPlaces}
use Rattle.mime_names.specs.Rules.{every, hits_of, is_text_rule, others, plain, texts}
use Rattle.mime_names.specs.Tree.{spelled}
use Rattle.mime_names.specs.declared.indexed_rule.IndexedRule.{IndexedRule}
use Rattle.mime_names.specs.declared.keys.KeyTable.{KeyTable}
use Rattle.mime_names.proofs.CountLemmas.{count-fronts, count-places}
use Rattle.mime_names.proofs.KeptLemmas.{filter-both, filter-map, kept-none, texts-plain}
use Rattle.mime_names.proofs.TableLemmas.{ends-high, fronts-low, other-at, text-at}

-- values that pass are as many as what has them
length-filter_map : {X Y : Type 0} (value : X → Y) (p : Y → Bool) (xs : List X) →
    length (filter p (map value xs)) ≡ length (filter (λ x. p (value x)) xs)
length-filter_map value p xs = ap length (filter-map value p xs) ∙ length-map (filter (λ x. p (value x)) xs) value

-- of the rules near a name the texts and all others
pub near-both : (name : List ℕ) (rules : List GlobRule) →
    near_texts name rules + near_others name rules ≡ near_rules name rules
near-both name rules =
    let near = filter (near_rule name) rules in
    let first = ap length (filter-both is_text_rule (near_rule name) rules) in
    let second = ap length (filter-both (λ (rule : GlobRule). not (is_text_rule rule)) (near_rule name) rules) in
    omega (arith, first, second, length-filter_both is_text_rule (λ (rule : GlobRule). not (is_text_rule rule)) (λ rule. refl) near)

module _ (patterns : List ℕ) (rules : List IndexedRule) (table : KeyTable) {general : ℕ} (is : IsIndex patterns rules table general) (name : List ℕ)
    (all : List GlobRule) (view : rules_of_index patterns rules ≡ all) where
  -- the keys of the rules
  abbrev keys : List ℕ
  keys = table.keys.items

  -- whether a key is that of one of the name's endings
  abbrev Ends : ℕ → Type 0
  Ends key = IsEndKey table.tree (spelled name) key

  -- how many of the rules pass
  pub passing : (p : GlobRule → Bool) → length (filter p all) ≡ length (filter (λ rule. p (plain patterns rule)) rules)
  passing p = ap (λ rs. length (filter p rs)) (sym view) ∙ length-filter_map (plain patterns) p rules

  -- where the keys of endings are asked for
  pub texts-nodes : (old new : ℕ) → CountsPlaces Ends keys old (2 * length name + 3) new →
      new + 2 ≤ old + near_nodes (length name) (near_texts name all)
  texts-nodes old new counted =
      let places =
      count-places table patterns rules is.keyed is.own name (texts patterns) counted.places counted.below counted.once
      (λ p rule within here has. (
        text-at table patterns rules is.keyed is.own name p rule within here (ends-high table.tree (spelled name) _ (counted.only p has)),
        inl (counted.only p has),
      )) in
      omega (arith, counted.steps, places, passing (λ rule. is_text_rule rule && near_rule name rule))

  -- where those of the front are
  pub fronts-nodes : (old new : ℕ) → CountsPlaces (Fronts name) keys old 2 new → new ≤ old + 2 + near_others name all
  fronts-nodes old new counted =
      let places =
      count-fronts table patterns rules is.keyed is.own name (others patterns) counted.places counted.below counted.once
      (λ p rule within here has. (
        other-at table patterns rules is.keyed is.own name p rule within here (fronts-low name _ (counted.only p has)),
        inr (counted.only p has),
      )) (λ p has. fronts-low name _ (counted.only p has)) in
      omega (arith, counted.steps, places, passing (λ rule. not (is_text_rule rule) && near_rule name rule))

  -- where those of both are
  pub every-near : (old new : ℕ) → CountsPlaces (λ key. Ends key ⊎ Fronts name key) keys old (2 * length name + 5) new →
      new ≤ old + near_nodes (length name) (near_rules name all)
  every-near old new counted =
      let places =
      count-places table patterns rules is.keyed is.own name (every patterns) counted.places counted.below counted.once
      (λ p rule within here has. (refl, counted.only p has)) in
      omega (arith, counted.steps, places, passing (near_rule name))

  -- no text matches where none is kept
  pub texts-none : (kinds : List (Bor (List ℕ))) → kinds ≡ map (λ rule. rule.kind)
      (of_greatest (λ rule. rank_of_rule (plain patterns rule)) (hits_of patterns (texts patterns) rules name)) →
      length kinds ≡ 0 → 0 < length (filter is_text_rule (hits all name)) → ⊥
  texts-none kinds kept none some =
      let found = kept-none patterns (hits_of patterns (texts patterns) rules name) kinds kept none in
      omega (
        arith,
        some,
        ap (λ rs. length (filter is_text_rule (hits rs name))) (sym view),
        ap length (texts-plain patterns rules name is.own),
        ap (λ (rs : List IndexedRule). length (map (plain patterns) rs)) found,
      )
