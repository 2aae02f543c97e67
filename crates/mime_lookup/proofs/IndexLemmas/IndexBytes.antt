-- The bytes that a name costs an index: those of rules that are tried, or of those near it; and those of each order.
use Rattle.std.proofs.Common.{if◌then◌else◌, ◌/◌, max, nat_lt, not, Bool, true, false, [], ◌∷◌, map, refl, sym, ap, ap₂, ◌∙◌}
use Rattle.std.proofs.Common.{◌≡◌, ℕ, ◌+◌, ◌*◌, ◌<◌, ◌≤◌, if◌then◌else◌, List, length, get_or, arith}
use Rattle.std.proofs.Math.Nat.{mul-le-mul_right}
use Rattle.mime_base.specs.declared.database.rule.GlobRule.{GlobRule}
use Rattle.mime_lookup.specs.IndexBytes.{all_bytes, hits_bytes, kept_bytes, tried_bytes}
use Rattle.mime_lookup.specs.IndexNodes.{has_text}
use Rattle.mime_base.specs.Kept.{hits}
use Rattle.std.specs.List.{filter}
use Rattle.std.proofs.lemmas.Bool.{ltb-true}
use Rattle.mime_lookup.specs.Indexed.{unaliased_rule}
use Rattle.mime_lookup.proofs.IndexLemmas.IndexNodes.{hits-same, near-same, passing, texts-same}
use Rattle.mime_names.specs.Rules.{is_text_rule}
use Rattle.std.proofs.lemmas.List.{length-map}
use Rattle.mime_names.specs.Near.{general_rules, is_mostly_general, longest, near_bytes, near_rules, near_texts, rule_bytes, text_bytes}
use Rattle.mime_names.proofs.ByteLemmas.{longest-at}

-- one rule more is tried
pub tried-more : (rules : List GlobRule) (name : List ℕ) (i : ℕ) (rule : GlobRule) → i < length rules → rule ≡ get_or rules i rule →
    (old mid new : ℕ) → mid ≤ old + i * rule_bytes (length name) (longest rules) →
    new ≤ mid + (length rule.pattern + 1) * (length name + 1) → new ≤ old + (i + 1) * rule_bytes (length name) (longest rules)
tried-more rules name i rule within is old mid new before tried =
    let shorter : length rule.pattern + 1 ≤ longest rules + 1 = omega (arith, longest-at rules i rule within is) in
    omega (arith, before, tried, mul-le-mul_right (length name + 1) shorter)

-- no more are than there are
pub tried-all : (rules : List GlobRule) (name : List ℕ) (i : ℕ) → i ≤ length rules → (old new : ℕ) →
    new ≤ old + i * rule_bytes (length name) (longest rules) → new ≤ old + tried_bytes rules name
tried-all rules name i few old new bytes = omega (arith, bytes, mul-le-mul_right (rule_bytes (length name) (longest rules)) few)

-- a type is nothing to the length of the longest pattern
longest-map : (aliases : List (List ℕ × List ℕ)) (rules : List GlobRule) → longest (map (unaliased_rule aliases) rules) ≡ longest rules
unfolding longest
longest-map aliases [] = refl
longest-map aliases (rule ∷ rules) = ap (max (length rule.pattern)) (longest-map aliases rules)

module _ (aliases : List (List ℕ × List ℕ)) (names rules : List GlobRule) (name : List ℕ)
    (are : names ≡ map (unaliased_rule aliases) rules) (old new : ℕ) where
  -- nor to the rules near a name
  pub near-bytes-same : near_bytes (length name) (longest names) (near_rules name names) ≡ hits_bytes rules name
  near-bytes-same =
      ap₂ (near_bytes (length name)) (ap longest are ∙ longest-map aliases rules) (near-same aliases names rules name are old new)

  -- nor to whether most are general patterns
  mostly-same : is_mostly_general names ≡ is_mostly_general rules
  mostly-same =
      ap₂ (λ many general. nat_lt (many / 2) general) (ap length are ∙ length-map rules (unaliased_rule aliases))
      (ap general_rules are ∙ passing aliases names rules name are old new (λ rule. not (is_text_rule rule)))

  module _ (mostly : Bool) (is : mostly ≡ is_mostly_general names) where
    -- the types of all rules that match, where each is tried
    pub all-tried : mostly ≡ true → new ≤ old + tried_bytes rules name → new ≤ old + all_bytes rules name
    all-tried most tried = rw (sym mostly-same ∙ sym is ∙ most) tried

    -- and where only those near the name are
    pub all-near : mostly ≡ false → new ≤ old + near_bytes (length name) (longest names) (near_rules name names) →
        new ≤ old + all_bytes rules name
    all-near few near = rw (sym mostly-same ∙ sym is ∙ few) (omega (arith, near, near-bytes-same))

    -- the types of the kept rules, where each is tried
    pub kept-tried : mostly ≡ true → new ≤ old + tried_bytes rules name → new ≤ old + kept_bytes rules name
    kept-tried most tried = rw (sym mostly-same ∙ sym is ∙ most) tried

    -- and where only those near the name are: of these the texts, where one matches
    pub kept-near : mostly ≡ false → new ≤ old + near_bytes (length name) (longest names) (near_rules name names) →
        (0 < length (filter is_text_rule (hits names name)) → new ≤ old + text_bytes (length name) (near_texts name names)) →
        new ≤ old + kept_bytes rules name
    kept-near few near texts = rw (sym mostly-same ∙ sym is ∙ few) (by_cases (has_text rules name) refl)
      where
        by_cases : (has : Bool) → has_text rules name ≡ has →
            new ≤ old + (if has then text_bytes (length name) (near_texts name rules) else hits_bytes rules name)
        by_cases true has =
            let some : 0 < length (filter is_text_rule (hits names name)) =
            omega (arith, ltb-true 0 _ has, hits-same aliases names rules name are old new) in
            omega (arith, texts some, ap (text_bytes (length name)) (texts-same aliases names rules name are old new))
        by_cases false none = omega (arith, near, near-bytes-same)
