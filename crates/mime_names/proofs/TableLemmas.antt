-- The places that a table gives a name, as those of a part of the rules.
use Rattle.std.proofs.Common.{◌≡◌, ◌⊎◌, inl, inr, ℕ, ◌<◌, ◌≤◌, Bool, true, false, not, List, length, get_or, refl, sym, ap, subst, ◌∙◌, arith}
use Rattle.std.specs.List.{All}
use Rattle.std.proofs.lemmas.Bool.{cases_Bool, true≢false}
use Rattle.mime_names.specs.Chains.{AreBelow}
use Rattle.mime_names.specs.Keys.{IsEndKey, Fronts, IsTable, IsTableOf}
use Rattle.mime_names.specs.Places.{AreNear, AreSortedPlaces}
use Rattle.mime_names.specs.Rules.{IsIndexedRule, every, of_texts, others, texts}
use Rattle.mime_names.specs.Tree.{spelled}
use Rattle.mime_names.specs.declared.indexed_rule.IndexedRule.{IndexedRule}
use Rattle.mime_names.specs.declared.keys.KeyTable.{KeyTable}
use Rattle.mime_names.specs.declared.tree.Tree.{Tree}
use Rattle.mime_names.proofs.NearLemmas.{near_by_keys}

-- a table of rules is a table
pub table_alone : (table : KeyTable) (patterns : List ℕ) (rules : List IndexedRule) → IsTableOf table patterns rules → IsTable table
table_alone table patterns rules is = record { is_tree = is.keyed.is_tree; chained = is.chained; room = is.room }

-- the key of a node is above the others
pub ends-high : (tree : Tree) (text : List ℕ) (key : ℕ) → IsEndKey tree text key → 257 ≤ key
ends-high tree text key (inl ends) = omega (arith, ends.3)
ends-high tree text key (inr whole) = omega (arith, whole.1)

-- the others are below
pub fronts-low : (name : List ℕ) (key : ℕ) → Fronts name key → key < 257
fronts-low name key (inl any) = omega (arith, any)
fronts-low name key (inr begins) = omega (arith, begins.0)

-- so no key is of both
pub ends-fronts : (tree : Tree) (text name : List ℕ) (key : ℕ) → IsEndKey tree text key → Fronts name key → ⊥
ends-fronts tree text name key ends front = omega (arith, ends-high tree text key ends, fronts-low name key front)

module _ (table : KeyTable) (patterns : List ℕ) (rules : List IndexedRule) (is : IsTableOf table patterns rules) (own : All (IsIndexedRule patterns) rules) (name : List ℕ) where
  -- the keys of the endings of the name
  abbrev ends : ℕ → Type 0
  ends key = IsEndKey table.tree (spelled name) key

  -- the class of a rule of them
  class-at : (p : ℕ) (rule : IndexedRule) → p < length rules → rule ≡ get_or rules p rule → of_texts rule.class ≡ texts patterns rule
  class-at p rule within here =
      let indexed : IsIndexedRule patterns rule = subst (IsIndexedRule patterns) (sym here) (own p rule within) in
      ap of_texts indexed.class

  -- a key of a node is one of a text
  pub text-at : (p : ℕ) (rule : IndexedRule) → p < length rules → rule ≡ get_or rules p rule → 257 ≤ get_or table.keys.items p 0 →
      texts patterns rule ≡ true
  text-at p rule within here high = elim (cases_Bool (texts patterns rule)) [
    | inl text ↦ text
    | inr other ↦ (let low = (is.keyed.each p rule within here).others (class-at p rule within here ∙ other) in absurd (omega (arith, low, high)))
  ]

  -- any other key is one of another rule
  pub other-at : (p : ℕ) (rule : IndexedRule) → p < length rules → rule ≡ get_or rules p rule → get_or table.keys.items p 0 < 257 →
      others patterns rule ≡ true
  other-at p rule within here low = elim (cases_Bool (texts patterns rule)) [
    | inl text ↦ (let high = (is.keyed.each p rule within here).texts (class-at p rule within here ∙ text) in absurd (omega (arith, low, high)))
    | inr other ↦ ap not other
  ]

  -- those of the endings are those of texts
  pub near-texts : (places : List ℕ) → AreSortedPlaces ends table.keys.items places → AreNear patterns (texts patterns) rules name places
  near-texts places sorted =
      near_by_keys patterns (texts patterns) ends table.keys.items places rules name sorted is.keyed.many
      (λ p rule within here text found. (is.keyed.each p rule within here).ends (class-at p rule within here ∙ text) name found)
      (λ p rule within here passes. text-at p rule within here (ends-high table.tree (spelled name) _ passes))

  -- those of the front are those of all others
  pub near-others : (places : List ℕ) → AreSortedPlaces (Fronts name) table.keys.items places → AreNear patterns (others patterns) rules name places
  near-others places sorted =
      near_by_keys patterns (others patterns) (Fronts name) table.keys.items places rules name sorted is.keyed.many
      (λ p rule within here other found. (is.keyed.each p rule within here).fronts (class-at p rule within here ∙ negated (texts patterns rule) other) name found)
      (λ p rule within here passes. other-at p rule within here (fronts-low name _ passes))
    where
      negated : (b : Bool) → not b ≡ true → b ≡ false
      negated true is = absurd (true≢false (sym is))
      negated false is = refl

  -- both are those of all
  pub near-every : (places : List ℕ) → AreSortedPlaces (λ key. ends key ⊎ Fronts name key) table.keys.items places → AreNear patterns (every patterns) rules name places
  near-every places sorted =
      near_by_keys patterns (every patterns) (λ key. ends key ⊎ Fronts name key) table.keys.items places rules name sorted is.keyed.many
      (λ p rule within here any found. elim (cases_Bool (texts patterns rule)) [
        | inl text ↦ inl ((is.keyed.each p rule within here).ends (class-at p rule within here ∙ text) name found)
        | inr other ↦ inr ((is.keyed.each p rule within here).fronts (class-at p rule within here ∙ other) name found)
      ])
      (λ p rule within here passes. refl)

  -- they are places of rules
  pub below-sorted : (Passes : ℕ → Type 0) (places : List ℕ) → AreSortedPlaces Passes table.keys.items places → AreBelow (length rules) places
  below-sorted Passes places sorted = λ i within. omega (arith, sorted.below i within, is.keyed.many)
