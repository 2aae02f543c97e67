-- The kept types are the first of the candidates, so what holds of these holds of them.
use Rattle.std.proofs.Common.{◌≡◌, ℕ, zero, suc, Bool, true, false, true≢false, List, [], ◌∷◌, length, take, map, get_or, cond}
use Rattle.std.proofs.Common.{refl, sym, ap, subst, ◌∙◌, bytes_eq, arith}
use Rattle.std.specs.List.{All, list_all}
use Rattle.std.proofs.lemmas.Bool.{and_from, and_parts}
use Rattle.std.proofs.lemmas.List.{length-map, take-map, take_all}
use Rattle.std.proofs.lemmas.List.Elements.{All-filter}
use denote.Bor.{Bor}
use Rattle.mime_base.specs.Database.{PlainDatabase, pairs_of}
use Rattle.mime_base.specs.Database.Subclass.{Pairs, resolved}
use Rattle.mime_base.specs.Kept.{FitsRank, candidate_rules, hits, kept_rules, rank_of_rule}
use Rattle.mime_base.specs.Matching.Matches.{rule_matches}
use Rattle.mime_base.specs.declared.database.rule.GlobRule.{GlobRule}
use Rattle.mime_base.proofs.KeptLemmas.{of_greatest-rank_of_rule}
use Rattle.mime_base.proofs.KeptLemmas.Candidates.{take-candidate_rules}
use Rattle.mime_base.proofs.KeptLemmas.Greatest.{of_greatest-none}
use Rattle.mime_lookup.specs.Ancestry.{kinds_of}
use Rattle.mime_lookup.specs.Cached.{asked_count}
use Rattle.mime_lookup.specs.CheckingOrder.{are_one_type}
use Rattle.mime_lookup.specs.Choice.{ChoosesAmong, candidates, kept}
use Rattle.mime_lookup.specs.NameTypes.{types_for}
use Rattle.mime_lookup.proofs.OrderLemmas.Answering.{one_type_chosen}
use Rattle.mime_view.specs.declared.name_hits.Which.{Which}
use Rattle.mime_view.specs.declared.name_hits.Which.TheVariants.{Candidates, Kept}

-- what holds of all holds of the first
list_all-take : {X : Type 0} (p : X → Bool) (n : ℕ) (xs : List X) → list_all p xs ≡ true → list_all p (take n xs) ≡ true
list_all-take p zero xs all = refl
list_all-take p (suc n) [] all = refl
list_all-take p (suc n) (x ∷ xs) all =
    let parts = and_parts (p x) (list_all p xs) all in
    and_from _ _ parts.0 (list_all-take p n xs parts.1)

-- Some of the first of some types: that one type, where all are one.
pub record IsFront (front all : List (List ℕ)) : Type 0 where
  -- They come first.
  pub first : take (length front) all ≡ front
  -- There are some, where there is any.
  pub some : front ≡ [] → all ≡ []

-- where all are one type, so are the first
pub front_one : (front all : List (List ℕ)) → IsFront front all → are_one_type all ≡ true
    → (are_one_type front ≡ true) × (get_or front 0 [] ≡ get_or all 0 [])
front_one front [] is one = absurd (true≢false (sym one))
front_one [] (first ∷ more) is one = let none = is.some refl in absurd cc
front_one (kind ∷ kinds) (first ∷ more) is one =
    let split : first ∷ take (length kinds) more ≡ kind ∷ kinds = is.first in
    let same : kind ≡ first = cc in
    let rest : kinds ≡ take (length kinds) more = cc in (
      subst (λ (text : List ℕ). list_all (bytes_eq text) kinds ≡ true) (sym same)
          (subst (λ (texts : List (List ℕ)). list_all (bytes_eq first) texts ≡ true) (sym rest)
          (list_all-take (bytes_eq first) (length kinds) more one)),
      same,
    )

-- where they are one type, the first of all is that type
first_chosen : (pairs : Pairs) (front all : List (List ℕ)) (base answer : List ℕ) → IsFront front all → are_one_type front ≡ true
    → ChoosesAmong pairs (take 1 all) base answer → ChoosesAmong pairs front base answer
first_chosen pairs [] all base answer is one chosen = absurd (true≢false (sym one))
first_chosen pairs (kind ∷ kinds) [] base answer is one chosen = let split : [] ≡ kind ∷ kinds = is.first in absurd cc
first_chosen pairs (kind ∷ kinds) (first ∷ more) base answer is one chosen =
    let split : first ∷ take (length kinds) more ≡ kind ∷ kinds = is.first in
    let same : answer ≡ kind = let other : first ≡ kind = cc in chosen ∙ other in
    rw same (one_type_chosen pairs (kind ∷ kinds) base one)

-- a choice among those that are asked is one among the first
pub asked_chosen : (pairs : Pairs) (front all : List (List ℕ)) (base answer : List ℕ) → IsFront front all
    → ChoosesAmong pairs (take (asked_count front) all) base answer → ChoosesAmong pairs front base answer
asked_chosen pairs front all base answer is chosen = by_one (are_one_type front) refl chosen
  where
    by_one : (one : Bool) → are_one_type front ≡ one → ChoosesAmong pairs (take (cond one 1 (length front)) all) base answer
        → ChoosesAmong pairs front base answer
    by_one true one chosen = first_chosen pairs front all base answer is one chosen
    by_one false one chosen = subst (λ (kinds : List (List ℕ)). ChoosesAmong pairs kinds base answer) is.first chosen

module _ (b : PlainDatabase) (name : List ℕ) (ranked : All FitsRank b.rules) where
  -- without a kept rule none matches
  hits-none : kept_rules b.rules name ≡ [] → hits b.rules name ≡ []
  unfolding kept_rules
  hits-none none =
      let fits = All-filter (λ rule. rule_matches rule.pattern rule.cased name) FitsRank b.rules ranked in
      of_greatest-none rank_of_rule (hits b.rules name) (of_greatest-rank_of_rule (hits b.rules name) fits ∙ none)

  -- so there is no candidate
  candidates-none : kept (pairs_of b) b.rules name ≡ [] → candidates (pairs_of b) b.rules name ≡ []
  unfolding kept candidates candidate_rules
  candidates-none none = rw (hits-none (map-none _ (kept_rules b.rules name) none)) refl
    where
      map-none : (step : GlobRule → List ℕ) (rules : List GlobRule) → map step rules ≡ [] → rules ≡ []
      map-none step [] none = refl
      map-none step (rule ∷ rules) none = absurd cc

  -- the kept types are the first of the candidates
  pub kept_front : IsFront (kept (pairs_of b) b.rules name) (candidates (pairs_of b) b.rules name)
  unfolding kept candidates
  kept_front =
      let step : GlobRule → List ℕ = λ rule. resolved b.aliases rule.kind in
      record {
        first =
            ap (λ (n : ℕ). take n (map step (candidate_rules b.rules name))) (length-map (kept_rules b.rules name) step)
            ∙ take-map step (length (kept_rules b.rules name)) (candidate_rules b.rules name)
            ∙ ap (map step) (take-candidate_rules b.rules ranked name);
        some = candidates-none;
      }

  -- and the first of the types of the rules that are asked for
  pub take-types : (which : Which) → take (length (kept (pairs_of b) b.rules name)) (types_for which b name) ≡ kept (pairs_of b) b.rules name
  take-types Kept = take_all (length (kept (pairs_of b) b.rules name)) (kept (pairs_of b) b.rules name) (omega arith)
  take-types Candidates = kept_front.first

  -- of the types of all that match the first are those that are kept
  pub front_kinds : (texts : List (Bor (List ℕ))) (count : ℕ) → kinds_of texts ≡ candidates (pairs_of b) b.rules name
      → count ≡ length (kept (pairs_of b) b.rules name) → kinds_of (take count texts) ≡ kept (pairs_of b) b.rules name
  front_kinds texts count are is =
      sym (take-map (λ (text : Bor (List ℕ)). text.now) count texts) ∙ ap (take count) are
      ∙ ap (λ (n : ℕ). take n (candidates (pairs_of b) b.rules name)) is ∙ kept_front.first
