-- How many texts and how many other rules are compared for a name, and with how many bytes.
use Rattle.std.proofs.Common.{◌≡◌, ◌≢◌, ◌⊎◌, ℕ, ◌+◌, ◌*◌, ◌<◌, ◌≤◌, Bool, false, not, ◌&&◌, List, [], length, get_or, sym, ap, subst, ◌∙◌, arith}
use Rattle.std.specs.List.{AllPairs, Contains, filter}
use Rattle.std.proofs.lemmas.Bool.{not-true}
use Rattle.std.proofs.lemmas.List.{get_or-map, get_or_default}
use Rattle.std.proofs.lemmas.List.Elements.{Contains-get_or}
use Rattle.std.proofs.lemmas.List.Kept.{AllPairs-filter}
use Rattle.std.proofs.Math.Nat.{mul-le-mul_left, mul-le-mul_right}
use Rattle.mime_base.specs.declared.database.rule.GlobRule.{GlobRule}
use Rattle.mime_names.specs.Chains.{AreBelow}
use Rattle.mime_names.specs.Index.{IsIndex, rules_of_index}
use Rattle.mime_names.specs.Keys.{Fronts, IsEndKey}
use Rattle.mime_names.specs.Near.{near_rule, near_texts, rule_bytes}
use Rattle.mime_names.specs.Places.{is_text_at}
use Rattle.mime_names.specs.Rules.{IsIndexedRule, is_text_rule, of_texts, others, texts}
use Rattle.mime_names.specs.Tree.{spelled}
use Rattle.mime_names.specs.declared.indexed_rule.IndexedRule.{IndexedRule}
use Rattle.mime_names.specs.declared.keys.KeyTable.{KeyTable}
use Rattle.mime_names.proofs.CountLemmas.{count-fronts, count-places}
use Rattle.mime_names.proofs.DistinctLemmas.{distinct-le, filter-has}
use Rattle.mime_names.proofs.NearLemmas.{some_rule}
use Rattle.mime_names.proofs.NodeLemmas.{passing}

-- the bytes of texts and of other rules that are compared, by how many of them are near and how many nodes there are
pub compared-le : (n each some rest near_text near_other near old new : ℕ) → n ≤ each → some ≤ n + 1 + near_text → rest ≤ near_other →
    near_text + near_other ≡ near → new ≤ old + some * n + rest * each → new ≤ old + (near * each + (n + 1) * n)
compared-le n each some rest near_text near_other near old new less few fewer sum bytes =
    let on_way : some * n ≤ (n + 1 + near_text) * n = mul-le-mul_right n few in
    let close : near_text * n ≤ near_text * each = mul-le-mul_left near_text less in
    let general : rest * each ≤ near_other * each = mul-le-mul_right each fewer in
    let all : (near_text + near_other) * each ≡ near * each = ap (λ k. k * each) sum in
    omega (arith, bytes, on_way, close, general, all)

-- a name has no more bytes than a rule may compare with it
pub name-le : (name pattern : ℕ) → name ≤ rule_bytes name pattern
name-le name pattern = omega arith

module _ (patterns : List ℕ) (rules : List IndexedRule) (table : KeyTable) {general : ℕ} (is : IsIndex patterns rules table general) (name : List ℕ)
    (all : List GlobRule) (view : rules_of_index patterns rules ≡ all) (asked : List ℕ) (once : AllPairs (λ p q. p ≢ q) asked)
    (asks : (p : ℕ) → Contains asked p →
    (p < length table.keys.items) × (IsEndKey table.tree (spelled name) (get_or table.keys.items p 0) ⊎ Fronts name (get_or table.keys.items p 0)))
  where
    -- those of a kind
    abbrev of_kind : (ℕ → Bool) → List ℕ
    of_kind test = filter test asked

    -- those that are texts
    abbrev is_text : ℕ → Bool
    is_text = is_text_at patterns rules

    -- and those that aren't
    abbrev is_other : ℕ → Bool
    is_other p = not (is_text p)

    -- there is a rule at each
    below : (test : ℕ → Bool) → AreBelow (length table.keys.items) (of_kind test)
    below test i within = (asks _ (filter-has test asked _ (Contains-get_or (of_kind test) i 0 within)).0).0

    -- which is a text where its place says so
    at : (p : ℕ) (rule : IndexedRule) → p < length rules → rule ≡ get_or rules p rule → is_text p ≡ texts patterns rule
    at p rule within here = get_or-map (texts patterns) rules p rule false within ∙ ap (texts patterns) (sym here)

    -- the texts are those near the name, and at most one at each node on its way
    pub texts-asked : length (of_kind is_text) ≤ length name + 1 + near_texts name all
    texts-asked =
        let places =
        count-places table patterns rules is.keyed is.own name (texts patterns) (of_kind is_text) (below is_text)
        (AllPairs-filter (λ p q. p ≢ q) is_text asked once)
        (λ p rule within here has. (let both = filter-has is_text asked p has in (sym (at p rule within here) ∙ both.1, (asks p both.0).1))) in
        omega (arith, places, passing patterns rules table is name all view (λ rule. is_text_rule rule && near_rule name rule))

    -- the key of a text is one of a node
    high : (p : ℕ) → Contains (of_kind is_text) p → 257 ≤ get_or table.keys.items p 0
    high p has =
        let both = filter-has is_text asked p has in
        let within : p < length rules = omega (arith, (asks p both.0).0, is.keyed.keyed.many) in
        let d : IndexedRule = some_rule rules (omega (arith, within)) in
        let rule : IndexedRule = get_or rules p d in
        let here : rule ≡ get_or rules p rule = get_or_default rules p d rule within in
        let indexed : IsIndexedRule patterns rule = subst (IsIndexedRule patterns) (sym here) (is.own p rule within) in
        (is.keyed.keyed.each p rule within here).texts (ap of_texts indexed.class ∙ sym (at p rule within here) ∙ both.1)

    -- the key of a rule that is no text is below those of nodes
    low : (p : ℕ) → Contains (of_kind is_other) p → get_or table.keys.items p 0 < 257
    low p has =
        let both = filter-has is_other asked p has in
        let within : p < length rules = omega (arith, (asks p both.0).0, is.keyed.keyed.many) in
        let d : IndexedRule = some_rule rules (omega (arith, within)) in
        let rule : IndexedRule = get_or rules p d in
        let here : rule ≡ get_or rules p rule = get_or_default rules p d rule within in
        let indexed : IsIndexedRule patterns rule = subst (IsIndexedRule patterns) (sym here) (is.own p rule within) in
        (is.keyed.keyed.each p rule within here).others
        (ap of_texts indexed.class ∙ sym (at p rule within here) ∙ not-true (is_text p) both.1)

    -- where no key is one of a node, none is a text
    pub no-texts : ((p : ℕ) → Contains asked p → get_or table.keys.items p 0 < 257) → length (of_kind is_text) ≤ 0
    no-texts low_keys =
        distinct-le (of_kind is_text) [] (AllPairs-filter (λ p q. p ≢ q) is_text asked once)
        (λ p has. (let both = filter-has is_text asked p has in absurd (omega (arith, low_keys p both.0, high p has))))

    -- where each is, all are
    pub no-others : ((p : ℕ) → Contains asked p → 257 ≤ get_or table.keys.items p 0) → length (of_kind is_other) ≤ 0
    no-others high_keys =
        distinct-le (of_kind is_other) [] (AllPairs-filter (λ p q. p ≢ q) is_other asked once)
        (λ p has. (let both = filter-has is_other asked p has in absurd (omega (arith, high_keys p both.0, low p has))))

    -- the others are near the name
    pub others-asked : length (of_kind is_other) ≤ length (filter (λ rule. not (is_text_rule rule) && near_rule name rule) all)
    others-asked =
        let places =
        count-fronts table patterns rules is.keyed is.own name (others patterns) (of_kind is_other) (below is_other)
        (AllPairs-filter (λ p q. p ≢ q) is_other asked once)
        (λ p rule within here has. (let both = filter-has is_other asked p has in (
          ap not (sym (at p rule within here)) ∙ both.1,
          (asks p both.0).1,
        ))) low in
        omega (arith, places, passing patterns rules table is name all view (λ rule. not (is_text_rule rule) && near_rule name rule))
