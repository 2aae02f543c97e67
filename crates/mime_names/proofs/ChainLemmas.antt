-- Chains of rules with a rule more, before all others.
use Rattle.std.proofs.Common.{◌≡◌, ◌≢◌, inl, inr, ℕ, zero, suc, ◌+◌, ◌-◌, ◌<◌, ◌≤◌, List, length, get_or, get_or-set_same, get_or-set_other, slice_set, sym, ap, ◌∙◌, arith}
use Rattle.std.proofs.lemmas.Bool.{cases_eq, cases_lt}
use Rattle.std.proofs.lemmas.List.{length-set}
use Rattle.mime_names.specs.Chains.{AreChained}

module _ (firsts nexts keys : List ℕ) (place : ℕ) (are : AreChained firsts nexts keys (place + 1)) (within : place < length keys)
    (room : get_or keys place 0 < length firsts) where
  -- its key
  abbrev key : ℕ
  key = get_or keys place 0

  -- the first of each key then
  abbrev new-firsts : List ℕ
  new-firsts = slice_set firsts key (place + 1)

  -- and what comes after each
  abbrev new-nexts : List ℕ
  new-nexts = slice_set nexts place (get_or firsts key 0)

  -- its key has it first
  first-own : get_or new-firsts key 0 ≡ place + 1
  first-own = get_or-set_same firsts key (place + 1) 0 room

  -- it names the one that was first
  next-own : get_or new-nexts place 0 ≡ get_or firsts key 0
  next-own = get_or-set_same nexts place (get_or firsts key 0) 0 (omega (arith, within, are.many))

  -- those after it name what they named
  next-other : (p : ℕ) → place < p → get_or new-nexts p 0 ≡ get_or nexts p 0
  next-other p after = get_or-set_other nexts place p (get_or firsts key 0) 0 (λ is. omega (arith, is, after))

  -- the rules from it on are in chains
  pub chained-before : AreChained new-firsts new-nexts keys place
  chained-before = record {
    many = length-set nexts place (get_or firsts key 0) ∙ are.many;
    own = λ p other is. elim (cases_eq other key) [
      | inl same ↦ (let at : p ≡ place = omega (arith, sym is ∙ ap (λ k. get_or new-firsts k 0) same ∙ first-own) in
          ap (λ n. get_or keys n 0) at ∙ sym same)
      | inr differs ↦ are.own p other (sym (get_or-set_other firsts key other (place + 1) 0 differs) ∙ is)
    ];
    ends = λ other. elim (cases_eq other key) [
      | inl same ↦ omega (arith, ap (λ k. get_or new-firsts k 0) same ∙ first-own, within)
      | inr differs ↦ omega (arith, get_or-set_other firsts key other (place + 1) 0 differs, are.ends other)
    ];
    starts = λ p from inside. elim (cases_eq (get_or keys p 0) key) [
      | inl same ↦ (let is = ap (λ k. get_or new-firsts k 0) same ∙ first-own in (omega (arith, is), omega (arith, is, from)))
      | inr differs ↦ (
          let kept = get_or-set_other firsts key (get_or keys p 0) (place + 1) 0 differs in
          let after : place + 1 ≤ p = later p from (λ is. differs (ap (λ n. get_or keys n 0) is)) in
          let old = are.starts p after inside in (omega (arith, kept, old.0), omega (arith, kept, old.1)))
    ];
    later = λ p other is. elim (cases_eq other key) [
      | inl same ↦ omega (arith, sym is ∙ ap (λ k. get_or new-firsts k 0) same ∙ first-own)
      | inr differs ↦ omega (arith, are.later p other (sym (get_or-set_other firsts key other (place + 1) 0 differs) ∙ is))
    ];
    same = λ p q from is. elim (cases_lt place p) [
      | inl after ↦ are.same p q (omega (arith, after)) (sym (next-other p after) ∙ is)
      | inr not ↦ (let at : p ≡ place = omega (arith, not, from) in
          are.own q key (sym (ap (λ n. get_or new-nexts n 0) at ∙ next-own) ∙ is) ∙ ap (λ n. get_or keys n 0) (sym at))
    ];
    rises = λ p q from is. elim (cases_lt place p) [
      | inl after ↦ are.rises p q (omega (arith, after)) (sym (next-other p after) ∙ is)
      | inr not ↦ (let at : p ≡ place = omega (arith, not, from) in
          let first : get_or firsts key 0 ≡ q + 1 = sym (ap (λ n. get_or new-nexts n 0) at ∙ next-own) ∙ is in
          (omega (arith, at, are.later q key first), omega (arith, first, are.ends key)))
    ];
    follows = λ p q from order inside alike. elim (cases_lt place p) [
      | inl after ↦ (let old = are.follows p q (omega (arith, after)) order inside alike in
          (omega (arith, next-other p after, old.0), omega (arith, next-other p after, old.1)))
      | inr not ↦ (
          let at : p ≡ place = omega (arith, not, from) in
          let named : get_or new-nexts p 0 ≡ get_or firsts (get_or keys q 0) 0 =
          ap (λ n. get_or new-nexts n 0) at ∙ next-own ∙ ap (λ k. get_or firsts k 0) (ap (λ n. get_or keys n 0) (sym at) ∙ alike) in
          let old = are.starts q (omega (arith, at, order)) inside in
          (omega (arith, named, old.0), omega (arith, named, old.1)))
    ];
  }
    where
      later : (p : ℕ) → place ≤ p → p ≢ place → place + 1 ≤ p
      later p from not = elim (cases_lt place p) [
        | inl less ↦ omega (arith, less)
        | inr over ↦ absurd (not (omega (arith, from, over)))
      ]

-- how many places a chain may still come to, from a rule on
pub left_of : ℕ → ℕ → ℕ
left_of size zero = 0
left_of size (suc place) = size - place

-- there are fewer after the next rule
pub left_after : (size at next : ℕ) → 0 < at → at ≤ size → (0 < next → at < next) → left_of size next < left_of size at
unfolding left_of
left_after size zero next some within later = absurd (omega (arith, some))
left_after size (suc place) zero some within later = omega (arith, within)
left_after size (suc place) (suc next) some within later = omega (arith, within, later (omega arith))
