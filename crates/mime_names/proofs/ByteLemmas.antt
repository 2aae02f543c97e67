-- The bytes that are compared for a name, by the rules near it.
use Rattle.std.proofs.Common.{◌≡◌, ◌≢◌, ◌⊎◌, inl, inr, ℕ, zero, suc, ◌+◌, ◌*◌, ◌<◌, ◌≤◌, Bool, true, false, not, cond, List, [], ◌∷◌, length}
use Rattle.std.proofs.Common.{get_or, map, refl, sym, ap, subst, ◌∙◌, arith}
use Rattle.std.specs.List.{All, Contains, filter}
use Rattle.std.proofs.lemmas.List.Elements.{Contains-get_or}
use Rattle.std.proofs.lemmas.List.Kept.{AllPairs-cons}
use Rattle.std.proofs.lemmas.List.{get_or-map, length-map}
use Rattle.std.proofs.Math.Nat.{mul-le-mul_right}
use Rattle.mime_base.specs.declared.database.rule.GlobRule.{GlobRule}
use Rattle.mime_names.specs.Near.{longest, rule_bytes}
use Rattle.mime_names.specs.Places.{ComparesPlaces, is_text_at}
use Rattle.mime_names.specs.Rules.{IsIndexedRule, of_texts, pattern_of, plain, texts}
use Rattle.mime_names.specs.declared.indexed_rule.IndexedRule.{IndexedRule}

-- What is compared so far: all at places before one.
pub record ComparesBefore (is_text : ℕ → Bool) (places : List ℕ) (text other from old new : ℕ) : Type 0 where
  -- It is compared at some of the places.
  pub so_far : ComparesPlaces is_text places text other old new
  -- Each comes before it.
  pub past : (p : ℕ) → Contains so_far.asked p → p < from

module _ (is_text : ℕ → Bool) (places : List ℕ) (text other old : ℕ) where
  -- at first nothing is
  pub compares-none : ComparesBefore is_text places text other 0 old old
  compares-none = record {
    so_far = record {
      asked = [];
      among = λ p has. absurd (omega (arith, has.1));
      once = λ i j d order within. absurd (omega (arith, within));
      bytes = omega arith;
    };
    past = λ p has. absurd (omega (arith, has.1));
  }

  -- what has one place more has that or one of the others
  either : (place p : ℕ) (asked : List ℕ) → Contains (place ∷ asked) p → (place ≡ p) ⊎ Contains asked p
  either place p asked (zero, within, is) = inl is
  either place p asked (suc k, within, is) = inr (k, omega (arith, within), is)

  module _ (from place mid new : ℕ) (low : from ≤ place) (among : Contains places place)
      (before : ComparesBefore is_text places text other from old mid) where
    -- the places with it
    abbrev grown : List ℕ
    grown = place ∷ before.so_far.asked

    -- where the bytes are bounded with it
    compares-with : new ≤ old + length (filter is_text grown) * text + length (filter (λ p. not (is_text p)) grown) * other →
        ComparesBefore is_text places text other (place + 1) old new
    compares-with bytes = record {
      so_far = record {
        asked = grown;
        among = λ p has. elim (either place p before.so_far.asked has) [
          | inl is ↦ subst (Contains places) is among
          | inr rest ↦ before.so_far.among p rest
        ];
        once =
            AllPairs-cons (λ p q. p ≢ q) place before.so_far.asked
            (λ k d within same. omega (arith, low, same, before.past (get_or before.so_far.asked k d) (Contains-get_or before.so_far.asked k d within)))
            before.so_far.once;
        bytes = bytes;
      };
      past = λ p has. elim (either place p before.so_far.asked has) [
        | inl is ↦ omega (arith, is)
        | inr rest ↦ omega (arith, low, before.past p rest)
      ];
    }

    -- one rule more is compared
    pub compares-more : new ≤ mid + other → (is_text place ≡ true → new ≤ mid + text) →
        ComparesBefore is_text places text other (place + 1) old new
    compares-more any own = compares-with (by_text (is_text place) own)
      where
        asked : List ℕ
        asked = before.so_far.asked

        by_text : (is : Bool) → (is ≡ true → new ≤ mid + text) →
            new ≤ old + length (cond is (place ∷ filter is_text asked) (filter is_text asked)) * text
            + length (cond (not is) (place ∷ filter (λ p. not (is_text p)) asked) (filter (λ p. not (is_text p)) asked)) * other
        by_text true own = omega (arith, own refl, before.so_far.bytes)
        by_text false own = omega (arith, any, before.so_far.bytes)

-- each pattern is no longer than the longest
pub longest-at : (rules : List GlobRule) (p : ℕ) (rule : GlobRule) → p < length rules → rule ≡ get_or rules p rule →
    length rule.pattern ≤ longest rules
unfolding longest
longest-at [] p rule within is = absurd (omega (arith, within))
longest-at (first ∷ rules) zero rule within is = omega (arith, ap (λ (r : GlobRule). length r.pattern) is)
longest-at (first ∷ rules) (suc p) rule within is = omega (arith, longest-at rules p rule (omega (arith, within)) is)

-- an index's rules
module _ (patterns : List ℕ) (rules : List IndexedRule) (own : All (IsIndexedRule patterns) rules) (name : List ℕ) (p : ℕ) (rule : IndexedRule)
    (within : p < length rules) (here : rule ≡ get_or rules p rule) where
  -- the rule is one of these
  indexed : IsIndexedRule patterns rule
  indexed = subst (IsIndexedRule patterns) (sym here) (own p rule within)

  -- its pattern is no longer than the longest
  length-at : length (pattern_of patterns rule) ≤ longest (map (plain patterns) rules)
  length-at =
      longest-at (map (plain patterns) rules) p (plain patterns rule) (omega (arith, within, length-map rules (plain patterns)))
      (ap (plain patterns) here ∙ sym (get_or-map (plain patterns) rules p rule (plain patterns rule) within))

  -- so it compares no more than that allows
  pub bytes-at : rule_bytes (length name) (length (pattern_of patterns rule)) ≤ rule_bytes (length name) (longest (map (plain patterns) rules))
  bytes-at = mul-le-mul_right (length name + 1) (omega (arith, length-at))

  -- its class says whether it is a text
  pub is_text-at : is_text_at patterns rules p ≡ of_texts rule.class
  is_text-at = get_or-map (texts patterns) rules p rule false within ∙ ap (texts patterns) (sym here) ∙ ap of_texts (sym indexed.class)

  module _ (places : List ℕ) (old from mid new : ℕ) (low : from ≤ p) (among : Contains places p) where
    -- the bytes that another rule may compare
    abbrev most : ℕ
    most = rule_bytes (length name) (longest (map (plain patterns) rules))

    -- where it is compared too, it is compared at a place more
    pub compares-rule : ComparesBefore (is_text_at patterns rules) places (length name) most from old mid →
        new ≤ mid + rule_bytes (length name) (length (pattern_of patterns rule)) → (of_texts rule.class ≡ true → new ≤ mid + length name) →
        ComparesBefore (is_text_at patterns rules) places (length name) most (p + 1) old new
    compares-rule before any own =
        compares-more (is_text_at patterns rules) places (length name) most old from p mid new low among before (omega (arith, any, bytes-at))
        (λ text. own (sym is_text-at ∙ text))
