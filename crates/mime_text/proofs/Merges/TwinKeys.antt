-- The set of the weights, types and patterns of case-sensitive rules, by which a rule is a twin or not.
use Rattle.std.proofs.Common.{◌≡◌, ℕ, ◌+◌, ◌<◌, ◌==◌, bytes_eq, Bool, true, false, not, ◌&&◌, ◌||◌, List, refl, sym, ap, ◌∙◌}
use Rattle.std.proofs.Common.{drop, length, get_or, Equal}
use Rattle.std.specs.List.{list_any}
use Rattle.std.specs.Borrow.{Bor}
use Rattle.std.specs.BTreeSet.{BTreeSet, insert_key}
use Rattle.std.specs.Cmp.Lexicographic.{slice_cmp}
use Rattle.std.specs.Ordering.{is_eq, nat_cmp, ordering_then}
use Rattle.std.proofs.lemmas.Bool.{and_parts}
use Rattle.std.proofs.lemmas.Bool.Decides.{Decides-eqb}
use Rattle.std.proofs.lemmas.List.{drop_more}
use Rattle.std.proofs.lemmas.Slice.Eq.{bytes_eq-Decides}
use Rattle.mime_base.specs.Kept.Twins.{are_alike, is_twin}
use Rattle.mime_base.specs.declared.database.rule.GlobRule.{GlobRule}
use Rattle.mime_text.proofs.Merges.Sets.{all-tied, inserted-any, key_cmp, or-turn}
use Rattle.mime_text.specs.Merging.TwinKeys.{has_key_of, is_kept}

-- ---- keys

-- whether a key is that of a rule
abbrev is_key_of : GlobRule → ℕ × Bor (List ℕ) × Bor (List ℕ) → Bool
is_key_of rule key =
    is_eq (ordering_then (ordering_then (nat_cmp rule.weight key.0) (slice_cmp nat_cmp rule.kind key.1.now))
    (slice_cmp nat_cmp rule.pattern key.2.now))

-- equal keys are those of the same rules
equal-keys : (rule : GlobRule) (x y : ℕ × Bor (List ℕ) × Bor (List ℕ)) → key_cmp x y ≡ Equal → is_key_of rule x ≡ is_key_of rule y
equal-keys rule x y equal =
    let all = and_parts (x.0 == y.0 && bytes_eq x.1.now y.1.now) (bytes_eq x.2.now y.2.now)
    (sym (all-tied x.0 y.0 x.1.now y.1.now x.2.now y.2.now) ∙ ap is_eq equal) in
    let both = and_parts (x.0 == y.0) (bytes_eq x.1.now y.1.now) all.0 in
    let weight : x.0 ≡ y.0 = (Decides-eqb x.0 y.0).0 both.0 in
    let kind : x.1.now ≡ y.1.now = (bytes_eq-Decides x.1.now y.1.now).0 both.1 in
    let pattern : x.2.now ≡ y.2.now = (bytes_eq-Decides x.2.now y.2.now).0 all.1 in
    rw (weight, kind, pattern) refl

-- a set with the key of one rule more has that of a rule where the two are alike
has_key_of-more : (rule added : GlobRule) (old new : BTreeSet (ℕ × Bor (List ℕ) × Bor (List ℕ))) (key : ℕ × Bor (List ℕ) × Bor (List ℕ)) →
    new.keys ≡ insert_key key_cmp old.keys key → key.0 ≡ added.weight → key.1.now ≡ added.kind → key.2.now ≡ added.pattern →
    has_key_of new rule ≡ (are_alike rule added || has_key_of old rule)
has_key_of-more rule added old new key more weight kind pattern =
    ap (list_any (is_key_of rule)) more
    ∙ inserted-any key_cmp (is_key_of rule) (equal-keys rule) key old.keys
    ∙ ap (λ b. b || has_key_of old rule)
    (all-tied rule.weight key.0 rule.kind key.1.now rule.pattern key.2.now ∙ rw (weight, kind, pattern) refl)

-- ---- the rules one by one

module _ (rules : List GlobRule) (i : ℕ) (here : GlobRule) (inside : i < length rules) (is : here ≡ get_or rules i here)
    (rule : GlobRule) where
  -- whether a rule is case-sensitive and like that one
  abbrev is_copy : GlobRule → Bool
  is_copy other = other.cased && are_alike rule other

  -- of the rules that are left this is the first
  copies-here : list_any is_copy (drop i rules) ≡ (is_copy here || list_any is_copy (drop (i + 1) rules))
  copies-here =
      ap (list_any is_copy) (drop_more rules i here inside)
      ∙ ap (λ (first : GlobRule). is_copy first || list_any is_copy (drop (i + 1) rules)) (sym is)

  -- a case-sensitive one, whose key was added
  pub copies-more : (old new : BTreeSet (ℕ × Bor (List ℕ) × Bor (List ℕ))) (key : ℕ × Bor (List ℕ) × Bor (List ℕ)) →
      here.cased ≡ true → new.keys ≡ insert_key key_cmp old.keys key →
      key.0 ≡ here.weight → key.1.now ≡ here.kind → key.2.now ≡ here.pattern →
      (has_key_of old rule || list_any is_copy (drop i rules)) ≡ list_any is_copy rules →
      (has_key_of new rule || list_any is_copy (drop (i + 1) rules)) ≡ list_any is_copy rules
  copies-more old new key cased more weight kind pattern all =
      ap (λ b. b || list_any is_copy (drop (i + 1) rules)) (has_key_of-more rule here old new key more weight kind pattern)
      ∙ or-turn (are_alike rule here) (has_key_of old rule) (list_any is_copy (drop (i + 1) rules))
      ∙ sym (ap (λ b. has_key_of old rule || b)
      (copies-here ∙ ap (λ c. (c && are_alike rule here) || list_any is_copy (drop (i + 1) rules)) cased))
      ∙ all

  -- any other, which added none
  pub copies-same : (old : BTreeSet (ℕ × Bor (List ℕ) × Bor (List ℕ))) → here.cased ≡ false →
      (has_key_of old rule || list_any is_copy (drop i rules)) ≡ list_any is_copy rules →
      (has_key_of old rule || list_any is_copy (drop (i + 1) rules)) ≡ list_any is_copy rules
  copies-same old uncased all =
      sym (ap (λ b. has_key_of old rule || b)
      (copies-here ∙ ap (λ c. (c && are_alike rule here) || list_any is_copy (drop (i + 1) rules)) uncased))
      ∙ all

-- ---- twins

-- a rule is kept by the keys of the case-sensitive ones exactly where it is no twin
pub is_kept-twin : (rules : List GlobRule) (cased : BTreeSet (ℕ × Bor (List ℕ) × Bor (List ℕ))) →
    ((rule : GlobRule) → has_key_of cased rule ≡ list_any (λ other. other.cased && are_alike rule other) rules) →
    (rule : GlobRule) → is_kept cased rule ≡ not (is_twin rules rule)
unfolding is_twin
is_kept-twin rules cased found rule =
    by_cases rule.cased _ ∙ ap (λ any. not (not rule.cased && any)) (found rule)
  where
    by_cases : (c b : Bool) → (c || not b) ≡ not (not c && b)
    by_cases true b = refl
    by_cases false b = refl
