-- The bytes that are compared for the rules of a name's endings, for those of its front, and for both.
use Rattle.std.proofs.Common.{◌≡◌, ◌⊎◌, inl, inr, ℕ, ◌+◌, ◌*◌, ◌<◌, ◌≤◌, Bool, not, List, [], length, get_or, subst, arith}
use Rattle.std.specs.List.{Contains, filter}
use Rattle.std.proofs.lemmas.List.{get_or_default}
use Rattle.std.proofs.Math.Nat.{mul-le-mul_right}
use Rattle.mime_base.specs.declared.database.rule.GlobRule.{GlobRule}
use Rattle.mime_names.specs.Index.{IsIndex, rules_of_index}
use Rattle.mime_names.specs.Keys.{Fronts, IsEndKey}
use Rattle.mime_names.specs.Near.{longest, near_bytes, near_others, near_rules, near_texts, rule_bytes, text_bytes}
use Rattle.mime_names.specs.Places.{AreSortedPlaces, ComparesKeys, ComparesPlaces, is_text_at}
use Rattle.mime_names.specs.Tree.{spelled}
use Rattle.mime_names.specs.declared.indexed_rule.IndexedRule.{IndexedRule}
use Rattle.mime_names.specs.declared.keys.KeyTable.{KeyTable}
use Rattle.mime_names.proofs.AskedLemmas.{compared-le, name-le, no-others, no-texts, others-asked, texts-asked}
use Rattle.mime_names.proofs.NodeLemmas.{near-both}
use Rattle.mime_names.proofs.TableLemmas.{ends-high, fronts-low}

-- rules at places of keys that pass
pub compares-keys : (is_text : ℕ → Bool) (Passes : ℕ → Type 0) (keys places : List ℕ) (text other old new : ℕ) →
    AreSortedPlaces Passes keys places → ComparesPlaces is_text places text other old new → ComparesKeys is_text Passes keys text other old new
compares-keys is_text Passes keys places text other old new sorted compared = record {
  asked = compared.asked;
  below = λ p has. (let there = compared.among p has in
      omega (arith, sorted.below there.0 there.1, get_or_default places there.0 p 0 there.1, there.2));
  only = λ p has. sorted.only p (compared.among p has);
  once = compared.once;
  bytes = compared.bytes;
}

-- none is compared
pub compares-no-keys : (is_text : ℕ → Bool) (Passes : ℕ → Type 0) (keys : List ℕ) (text other old new : ℕ) → new ≡ old →
    ComparesKeys is_text Passes keys text other old new
compares-no-keys is_text Passes keys text other old new same = record {
  asked = [];
  below = λ p has. absurd (omega (arith, has.1));
  only = λ p has. absurd (omega (arith, has.1));
  once = λ i j d order within. absurd (omega (arith, within));
  bytes = omega (arith, same);
}

module _ (name : List ℕ) (rules : List GlobRule) where
  -- the bytes of a rule that is no text
  abbrev of_others : ℕ
  of_others = rule_bytes (length name) (longest rules)

  -- texts near a name, and then the others, cost no more than all rules near it allow
  pub kept-bytes : (old mid new : ℕ) → mid ≤ old + text_bytes (length name) (near_texts name rules) →
      new ≤ mid + near_others name rules * of_others → new ≤ old + near_bytes (length name) (longest rules) (near_rules name rules)
  kept-bytes old mid new texts others =
      compared-le (length name) of_others (length name + 1 + near_texts name rules) (near_others name rules) (near_texts name rules)
      (near_others name rules) (near_rules name rules) old new (name-le (length name) (longest rules)) (omega arith) (omega arith)
      (near-both name rules) (omega (arith, texts, others))

  -- so do the texts alone
  pub texts-bytes : (old new : ℕ) → new ≤ old + text_bytes (length name) (near_texts name rules) →
      new ≤ old + near_bytes (length name) (longest rules) (near_rules name rules)
  texts-bytes old new texts = kept-bytes old new new texts (omega arith)

module _ (patterns : List ℕ) (rules : List IndexedRule) (table : KeyTable) {general : ℕ} (is : IsIndex patterns rules table general)
    (name : List ℕ) (all : List GlobRule) (view : rules_of_index patterns rules ≡ all) where
  -- the keys of the rules
  abbrev keys : List ℕ
  keys = table.keys.items

  -- whether the rule at a place is a text
  abbrev is_text : ℕ → Bool
  is_text = is_text_at patterns rules

  -- the bytes of a rule that is none, by the rules of the index
  abbrev own_each : ℕ
  own_each = rule_bytes (length name) (longest (rules_of_index patterns rules))

  -- and by those that it gives
  abbrev each : ℕ
  each = rule_bytes (length name) (longest all)

  -- the bytes of rules that are compared
  abbrev Bytes : List ℕ → ℕ → ℕ → ℕ → Type 0
  Bytes asked other old new =
      new ≤ old + length (filter is_text asked) * length name + length (filter (λ p. not (is_text p)) asked) * other

  -- by the rules that it gives
  bytes-given : (asked : List ℕ) (old new : ℕ) → Bytes asked own_each old new → Bytes asked each old new
  bytes-given asked old new bytes = subst (λ (rs : List GlobRule). Bytes asked (rule_bytes (length name) (longest rs)) old new) view bytes

  module _ (old new : ℕ) where
    -- those of endings are texts
    ends-bytes : ComparesKeys is_text (IsEndKey table.tree (spelled name)) keys (length name) own_each old new →
        new ≤ old + text_bytes (length name) (near_texts name all)
    ends-bytes compared =
        let texts = texts-asked patterns rules table is name all view compared.asked compared.once asks in
        let none = no-others patterns rules table is name all view compared.asked compared.once asks
        (λ p has. ends-high table.tree (spelled name) _ (compared.only p has)) in
        omega (arith, compared.bytes, mul-le-mul_right (length name) texts, mul-le-mul_right own_each none)
      where
        asks : (p : ℕ) → Contains compared.asked p →
            (p < length keys) × (IsEndKey table.tree (spelled name) (get_or keys p 0) ⊎ Fronts name (get_or keys p 0))
        asks p has = (compared.below p has, inl (compared.only p has))

    -- so are those at the places that endings lead to
    pub leading-bytes : (places : List ℕ) → AreSortedPlaces (IsEndKey table.tree (spelled name)) keys places →
        ComparesPlaces is_text places (length name) own_each old new → new ≤ old + text_bytes (length name) (near_texts name all)
    leading-bytes places sorted compared =
        ends-bytes (compares-keys is_text (IsEndKey table.tree (spelled name)) keys places (length name) own_each old new sorted compared)

    -- those of the front are near
    pub fronts-bytes : ComparesKeys is_text (Fronts name) keys (length name) own_each old new → new ≤ old + near_others name all * each
    fronts-bytes compared =
        let given = bytes-given compared.asked old new compared.bytes in
        let rest = others-asked patterns rules table is name all view compared.asked compared.once asks in
        let none = no-texts patterns rules table is name all view compared.asked compared.once asks
        (λ p has. fronts-low name _ (compared.only p has)) in
        omega (arith, given, mul-le-mul_right each rest, mul-le-mul_right (length name) none)
      where
        asks : (p : ℕ) → Contains compared.asked p →
            (p < length keys) × (IsEndKey table.tree (spelled name) (get_or keys p 0) ⊎ Fronts name (get_or keys p 0))
        asks p has = (compared.below p has, inr (compared.only p has))

    -- those of all places for whose keys a name asks
    pub every-bytes : ComparesKeys is_text (λ key. IsEndKey table.tree (spelled name) key ⊎ Fronts name key) keys (length name) own_each old new →
        new ≤ old + near_bytes (length name) (longest all) (near_rules name all)
    every-bytes compared =
        compared-le (length name) each _ _ (near_texts name all) (near_others name all) (near_rules name all) old new
        (name-le (length name) (longest all))
        (texts-asked patterns rules table is name all view compared.asked compared.once asks)
        (others-asked patterns rules table is name all view compared.asked compared.once asks)
        (near-both name all) (bytes-given compared.asked old new compared.bytes)
      where
        asks : (p : ℕ) → Contains compared.asked p →
            (p < length keys) × (IsEndKey table.tree (spelled name) (get_or keys p 0) ⊎ Fronts name (get_or keys p 0))
        asks p has = (compared.below p has, compared.only p has)
