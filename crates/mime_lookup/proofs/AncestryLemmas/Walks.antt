-- What an index of pairs gives: a name's alias step, and a walk along the pairs of a name.
use Rattle.std.proofs.Common.{◌≡◌, ℕ, ◌+◌, ◌-◌, ◌<◌, true, List, [], ◌∷◌, ◌++◌, length, get_or, drop, map, Option, None, Some}
use Rattle.std.proofs.Common.{refl, sym, ap, subst, ◌∙◌, ⊎_elim, arith, append-nil, bytes_eq}
use Rattle.std.proofs.lemmas.Bool.{cases_Bool}
use Rattle.std.proofs.lemmas.List.{get_or_default, length-append, length-map}
use Rattle.std.proofs.lemmas.Slice.Eq.{bytes_eq-Decides}
use Rattle.mime_base.specs.Database.PlainPairs.{plain_pairs}
use Rattle.mime_base.specs.Database.Subclass.{parents, resolved}
use Rattle.mime_base.specs.declared.database.pair.Pair.{Pair}
use Rattle.mime_lookup.specs.Places.{IsIndexed, IsNextPlace}
use Rattle.mime_lookup.proofs.AncestryLemmas.Places.{parents-low}
use Rattle.mime_lookup.proofs.AncestryLemmas.PairSteps.{parents-here, parents-nil, parents-past, pushed}
use Rattle.mime_lookup.proofs.AncestryLemmas.PairSteps.{resolved-here, resolved-past, resolved-nil}

-- a name is resolved to what its first pair points to, or to itself
pub resolved-none : (pairs : List (List ℕ × List ℕ)) (kind : List ℕ) → parents pairs kind ≡ [] → resolved pairs kind ≡ kind
resolved-none [] kind none = resolved-nil kind
resolved-none (pair ∷ pairs) kind none =
    ⊎_elim
    (λ hit. absurd (cc (parents-here pair.0 pair.1 kind pairs hit, none)))
    (λ miss. resolved-past pair.0 pair.1 kind pairs miss
    ∙ resolved-none pairs kind (sym (parents-past pair.0 pair.1 kind pairs miss) ∙ none))
    (cases_Bool (bytes_eq pair.0 kind))

-- an alias whose parents are those from its pair on stands for that pair's target
pub resolved-first : (pairs rest : List (List ℕ × List ℕ)) (alias target kind : List ℕ) → bytes_eq alias kind ≡ true →
    parents pairs kind ≡ parents ((alias, target) ∷ rest) kind → resolved pairs kind ≡ target
resolved-first [] rest alias target kind same is =
    absurd (cc (parents-nil kind, is, parents-here alias target kind rest same))
resolved-first (pair ∷ pairs) rest alias target kind same is =
    ⊎_elim
    (λ hit. resolved-here pair.0 pair.1 kind pairs hit
    ∙ ap (λ ks. get_or ks 0 []) (sym (parents-here pair.0 pair.1 kind pairs hit) ∙ is ∙ parents-here alias target kind rest same))
    (λ miss. resolved-past pair.0 pair.1 kind pairs miss
    ∙ resolved-first pairs rest alias target kind same (sym (parents-past pair.0 pair.1 kind pairs miss) ∙ is))
    (cases_Bool (bytes_eq pair.0 kind))

-- how many places are left, at most
abbrev pub places_left : ℕ → Option ℕ → ℕ
places_left size None = 0
places_left size (Some place) = size + 1 - place

-- an item that stands at a place
pub item_at : (pairs : List Pair) (place : ℕ) → place < length pairs → (pair : Pair) × (pair ≡ get_or pairs place pair)
item_at [] place within = absurd (omega (arith, within))
item_at (pair ∷ pairs) place within =
    let item = get_or (pair ∷ pairs) place pair in
    (item, get_or_default (pair ∷ pairs) place pair item within)

-- a name is resolved at the first place that it has
pub resolved-at : (pairs : List Pair) (kind : List ℕ) (place : ℕ) (pair : Pair) → IsNextPlace pairs kind 0 (Some place) →
    pair ≡ get_or pairs place pair → resolved (plain_pairs pairs) kind ≡ pair.target
resolved-at pairs kind place pair next is =
    resolved-first (plain_pairs pairs) (plain_pairs (drop (place + 1) pairs)) pair.name pair.target kind
    ((bytes_eq-Decides pair.name kind).1 (next.3 pair is)) (next.2 ∙ parents-low pairs place pair next.1 is kind)

-- what the next pair of a name leads to is what the name stands for
pub resolved-to : (pairs : List Pair) (kind : List ℕ) (place : ℕ) (target : List ℕ) → IsNextPlace pairs kind 0 (Some place) →
    ((pair : Pair) → pair ≡ get_or pairs place pair → target ≡ pair.target) → target ≡ resolved (plain_pairs pairs) kind
resolved-to pairs kind place target next says =
    let pair = item_at pairs place next.1 in
    says pair.0 pair.1 ∙ sym (resolved-at pairs kind place pair.0 next pair.1)

-- a walk along the pairs of a type has put what stands before this place at the end of a queue
pub record Walked (pairs : List Pair) (step : List ℕ → List ℕ) (kind : List ℕ) (place : Option ℕ) (queue before : List (List ℕ))
    : Type 0 where
  pub low : ℕ
  pub next : IsNextPlace pairs kind low place
  pub grown :
      queue ++ map step (parents (plain_pairs (drop low pairs)) kind) ≡ before ++ map step (parents (plain_pairs pairs) kind)

module _ (pairs : List Pair) (step : List ℕ → List ℕ) (kind : List ℕ) (before : List (List ℕ)) where
  -- at first
  pub walked-first : (place : Option ℕ) → IsNextPlace pairs kind 0 place → Walked pairs step kind place before before
  walked-first place first = record { low = 0; next = first; grown = refl }

  -- after the last place
  pub walked-all : (queue : List (List ℕ)) → Walked pairs step kind None queue before →
      queue ≡ before ++ map step (parents (plain_pairs pairs) kind)
  walked-all queue walked = sym (append-nil queue) ∙ ap (λ ks. queue ++ map step ks) (sym walked.next) ∙ walked.grown

  -- and how long it is then
  pub walked-length : (queue : List (List ℕ)) → Walked pairs step kind None queue before →
      length queue ≡ length before + length (parents (plain_pairs pairs) kind)
  walked-length queue walked =
      let came = map step (parents (plain_pairs pairs) kind) in
      ap length (walked-all queue walked) ∙ length-append before came
      ∙ ap (λ n. length before + n) (length-map (parents (plain_pairs pairs) kind) step)

  module _ (here : ℕ) (pair : Pair) (is : pair ≡ get_or pairs here pair) where
    -- a place more
    pub walked-more : (queue : List (List ℕ)) (one : List ℕ) (first : List ℕ → Option ℕ)
        (next : List (Option ℕ)) (k : ℕ) → Walked pairs step kind (Some here) queue before →
        IsIndexed pairs 0 first next → k + (here + 1) ≡ length pairs → one ≡ step pair.target →
        Walked pairs step kind (get_or next k None) (queue ++ one ∷ []) before
    walked-more queue one first next k walked indexed size gives =
        let name : pair.name ≡ kind = walked.next.3 pair is in
        let rest = parents (plain_pairs (drop (here + 1) pairs)) kind in
        let left : parents (plain_pairs (drop walked.low pairs)) kind ≡ pair.target ∷ rest =
        walked.next.2 ∙ parents-low pairs here pair walked.next.1 is kind
        ∙ parents-here pair.name pair.target kind _ ((bytes_eq-Decides pair.name kind).1 name) in
        record {
          low = here + 1;
          next = subst (λ n. IsNextPlace pairs n (here + 1) (get_or next k None)) name (indexed.nexts here k pair (omega arith) size is);
          grown = pushed step queue one pair.target rest _ gives left ∙ walked.grown;
        }

-- the next place is nearer to the end
pub places_left-falls : (pairs : List Pair) (name : List ℕ) (here : ℕ) (place : Option ℕ) → here < length pairs →
    IsNextPlace pairs name (here + 1) place → places_left (length pairs) place < places_left (length pairs) (Some here)
places_left-falls pairs name here None within next = omega (arith, within)
places_left-falls pairs name here (Some place) within next = omega (arith, within, next.0, next.1)
