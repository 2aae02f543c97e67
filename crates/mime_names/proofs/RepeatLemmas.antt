-- Which rules repeat the ones before them, after one more.
use Rattle.std.proofs.Common.{◌≡◌, inl, inr, ℕ, ◌+◌, ◌-◌, ◌<◌, true, List, [], ◌∷◌, ◌++◌, length, get_or, arith, ap, ap₂, ◌∙◌, sym, true≢false}
use Rattle.std.proofs.lemmas.Bool.{cases_lt, false_from_ne_true}
use Rattle.std.proofs.lemmas.List.{get_or_append_left, get_or_default, get_or_push, length_push}
use Rattle.mime_base.specs.Matching.Matches.{rule_matches}
use Rattle.mime_names.specs.Rules.{AreRepeats, is_match, pattern_of}
use Rattle.mime_names.specs.declared.indexed_rule.IndexedRule.{IndexedRule}

-- a rule with another's pattern and case matches what that one matches
repeats-match : (patterns name : List ℕ) (rule other : IndexedRule) → other.cased ≡ rule.cased →
    pattern_of patterns other ≡ pattern_of patterns rule → is_match patterns name other ≡ true → is_match patterns name rule ≡ true
repeats-match patterns name rule other case pattern matches =
    sym (ap₂ (λ p c. rule_matches p c name) pattern case) ∙ matches

module _ (patterns : List ℕ) (rules : List IndexedRule) (rule : IndexedRule) (known : AreRepeats patterns rules)
    (some : rule.repeats ≡ true → 0 < length rules)
    (same : rule.repeats ≡ true → (last : IndexedRule) → last ≡ get_or rules (length rules - 1) last →
    (last.cased ≡ rule.cased) × (pattern_of patterns last ≡ pattern_of patterns rule)) where
  -- the rule that is behind all others
  at-end : (r : IndexedRule) (p : ℕ) → p ≡ length rules → r ≡ get_or (rules ++ rule ∷ []) p r → r ≡ rule
  at-end r p at is = is ∙ get_or_push rules rule r p (sym at)

  -- one that is before it
  in-front : (r : IndexedRule) (p : ℕ) → p < length rules → r ≡ get_or (rules ++ rule ∷ []) p r → r ≡ get_or rules p r
  in-front r p below is = is ∙ get_or_append_left rules (rule ∷ []) r p below

  -- they are known with the one more
  pub repeats-more : AreRepeats patterns (rules ++ rule ∷ [])
  repeats-more = record {
    first = λ r _ is. elim (cases_lt 0 (length rules)) [
      | inl inside ↦ known.first r inside (in-front r 0 inside is)
      | inr none ↦ (let here = at-end r 0 (omega (arith, none)) is in
          rw here (false_from_ne_true rule.repeats (λ yes. omega (arith, some yes, none))))
    ];
    others = λ place before r name within is-before is repeats matches.
        let long = length_push rules rule in
        let front = in-front before place (omega (arith, within, long)) is-before in
        elim (cases_lt (place + 1) (length rules)) [
          | inl inside ↦ known.others place before r name inside front (in-front r (place + 1) inside is) repeats matches
          | inr last ↦ (let at : place + 1 ≡ length rules = omega (arith, last, within, long) in
              let here = at-end r (place + 1) at is in
              let alike = same (sym (ap (λ (x : IndexedRule). x.repeats) here) ∙ repeats) before
              (front ∙ ap (λ n. get_or rules n before) (omega (arith, at))) in
              rw here (repeats-match patterns name rule before alike.0 alike.1 matches))
        ];
  }

-- the rule before a place matches a name, if there is one
abbrev pub MatchedBefore : List ℕ → List IndexedRule → List ℕ → ℕ → Type 0
MatchedBefore patterns rules name matched =
    (p : ℕ) (rule : IndexedRule) → matched ≡ p + 1 → rule ≡ get_or rules p rule → is_match patterns name rule ≡ true

module _ (patterns : List ℕ) (rules : List IndexedRule) (name : List ℕ) (place : ℕ) (rule : IndexedRule) (low : place < length rules)
    (here : rule ≡ get_or rules place rule) where
  -- the rule at a place is before the next one
  pub matched-here : is_match patterns name rule ≡ true → MatchedBefore patterns rules name (place + 1)
  matched-here matches p r next is =
      let same : p ≡ place = omega (arith, next) in
      rw (is ∙ ap (λ n. get_or rules n r) same ∙ get_or_default rules place r rule low ∙ sym here) matches

  -- one that repeats the rule before it matches what this one matches
  pub matched-before : (matched : ℕ) → AreRepeats patterns rules → matched ≡ place → rule.repeats ≡ true →
      MatchedBefore patterns rules name matched → is_match patterns name rule ≡ true
  matched-before matched known at repeats matches = elim (cases_lt 0 place) [
    | inl some ↦ (let before = get_or rules (place - 1) rule in
        let is-before : before ≡ get_or rules (place - 1) before = get_or_default rules (place - 1) rule before (omega (arith, low)) in
        known.others (place - 1) before rule name (omega (arith, low, some)) is-before
        (here ∙ ap (λ n. get_or rules n rule) (omega (arith, some))) repeats (matches (place - 1) before (omega (arith, at, some)) is-before))
    | inr none ↦ absurd (true≢false (sym repeats ∙ known.first rule (omega (arith, low)) (here ∙ ap (λ n. get_or rules n rule) (omega (arith, none)))))
  ]
