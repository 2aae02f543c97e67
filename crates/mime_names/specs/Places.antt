-- The places of rules that may match a name.
use Rattle.std.specs.Prelude.{◌≡◌, ◌≢◌, ℕ, ◌+◌, ◌<◌, ◌*◌, ◌≤◌, Bool, true, false, not, List, length, get_or, map, filter, Contains}
use Rattle.std.specs.List.{AllPairs}
use Rattle.std.specs.List.Sorted.{IsNonDecreasing}
use Rattle.mime_names.specs.Chains.{AreBelow}
use Rattle.mime_names.specs.Rules.{is_match, texts}
use Rattle.mime_names.specs.declared.indexed_rule.IndexedRule.{IndexedRule}

-- The places of just the rules whose keys pass, in rising order.
pub record AreSortedPlaces (Passes : ℕ → Type 0) (keys places : List ℕ) : Type 0 where
  pub rise : IsNonDecreasing places
  pub below : AreBelow (length keys) places
  pub all : (p : ℕ) → p < length keys → Passes (get_or keys p 0) → Contains places p
  pub only : (p : ℕ) → Contains places p → Passes (get_or keys p 0)

-- Some nodes are counted, and one for each of some places of rules whose keys pass, none twice.
pub record CountsPlaces (Passes : ℕ → Type 0) (keys : List ℕ) (old more new : ℕ) : Type 0 where
  pub places : List ℕ
  pub below : AreBelow (length keys) places
  pub once : AllPairs (λ p q. p ≢ q) places
  pub only : (p : ℕ) → Contains places p → Passes (get_or keys p 0)
  pub steps : new ≤ old + length places + more

-- whether the rule at a place is a text
abbrev pub is_text_at : List ℕ → List IndexedRule → ℕ → Bool
is_text_at patterns rules p = get_or (map (texts patterns) rules) p false

-- Bytes are compared for the rules at some of these places, at none twice: for a text that many, for another rule as many as it says.
pub record ComparesPlaces (is_text : ℕ → Bool) (places : List ℕ) (text other old new : ℕ) : Type 0 where
  -- Where rules are compared.
  pub asked : List ℕ
  -- It is one of these places.
  pub among : (p : ℕ) → Contains asked p → Contains places p
  -- None is there twice.
  pub once : AllPairs (λ p q. p ≢ q) asked
  -- No more bytes are counted.
  pub bytes : new ≤ old + length (filter is_text asked) * text + length (filter (λ p. not (is_text p)) asked) * other

-- The same for rules whose keys pass.
pub record ComparesKeys (is_text : ℕ → Bool) (Passes : ℕ → Type 0) (keys : List ℕ) (text other old new : ℕ) : Type 0 where
  -- Where rules are compared.
  pub asked : List ℕ
  -- There is a rule.
  pub below : (p : ℕ) → Contains asked p → p < length keys
  -- Its key passes.
  pub only : (p : ℕ) → Contains asked p → Passes (get_or keys p 0)
  -- None is there twice.
  pub once : AllPairs (λ p q. p ≢ q) asked
  -- No more bytes are counted.
  pub bytes : new ≤ old + length (filter is_text asked) * text + length (filter (λ p. not (is_text p)) asked) * other

-- Places of rules of a part alone, in rising order, among them each that matches a name.
pub record AreNear (patterns : List ℕ) (part : IndexedRule → Bool) (rules : List IndexedRule) (name places : List ℕ) : Type 0 where
  pub rise : IsNonDecreasing places
  pub below : AreBelow (length rules) places
  pub all :
      (p : ℕ) (rule : IndexedRule) → p < length rules → rule ≡ get_or rules p rule →
      part rule ≡ true → is_match patterns name rule ≡ true → Contains places p
  pub only : (p : ℕ) (rule : IndexedRule) → Contains places p → rule ≡ get_or rules p rule → part rule ≡ true
