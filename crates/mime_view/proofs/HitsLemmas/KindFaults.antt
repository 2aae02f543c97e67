-- Why the types of hits are not given, by where the lists say that they stand.
use Rattle.std.proofs.Common.{◌≡◌, ℕ, ◌<◌, true, false, cond, ltb, List, [], ◌∷◌, get_or, length, inl, inr, ⊎_elim, sym, subst, arith}
use Rattle.std.specs.List.{All, AllByRecursion, Contains}
use Rattle.std.specs.Prelude.{Result, IfErr}
use Rattle.std.proofs.Math.ListN.{get_or-map}
use Rattle.std.proofs.lemmas.List.{length-map}
use Rattle.std.proofs.lemmas.List as list
use Rattle.std.proofs.lemmas.List.Elements.{All-from_recursion, All-get_or, All-map, Contains-get_or, recursion_from_All}
use Rattle.std.proofs.lemmas.Result.{IfErr-weaker}
use Rattle.mime_base.specs.Falling.{falling, insert_falling}
use Rattle.mime_view.specs.Gathered.{AddsAt, in_order, places_of}
use Rattle.mime_view.specs.Lists.{IsNoText}
use Rattle.mime_view.specs.NameHits.{IsHitsFault, lists_part}
use Rattle.mime_view.specs.Texts.{IsPlaceFault, IsTextsStop}
use Rattle.mime_view.specs.declared.budget.Budget.{Budget}
use Rattle.mime_view.specs.declared.fault.CacheFault.{CacheFault}
use Rattle.mime_view.specs.declared.name.RuleLists.{RuleLists}
use Rattle.mime_view.specs.declared.name_hits.Which.{Which}
use Rattle.mime_view.specs.declared.name_hits.Which.TheVariants.{Candidates, Kept}

-- where no hit was held before, each is one that was added
pub named_all : (Is : ℕ → Type 0) (old new : List (ℕ × ℕ)) → old ≡ [] → AddsAt Is old new → All (λ hit. Is hit.1) new
named_all Is old new none adds = λ k d l.
    let place : ℕ = get_or (places_of new) k d.1 in
    let held : Contains (places_of new) place = Contains-get_or (places_of new) k d.1 (omega (arith, l, length-map new (λ (hit : ℕ × ℕ). hit.1))) in
    let same : place ≡ (get_or new k d).1 = get_or-map (λ (hit : ℕ × ℕ). hit.1) new k d in
    subst Is same (⊎_elim (before place) (λ is. is) (adds place held))
  where
    before : (place : ℕ) → Contains (places_of old) place → Is place
    before place held =
        let among : Contains [] place = subst (λ (offers : List (ℕ × ℕ)). Contains (places_of offers) place) none held in
        absurd (omega (arith, among.1))

-- no text stands for the type of one of the hits
pub fault-at_hit : (c : List ℕ) (hits : List (ℕ × ℕ)) (i : ℕ) (d : ℕ × ℕ) (e : CacheFault) → i < length hits
    → IsNoText c (get_or hits i d).1 e → IsPlaceFault c (places_of hits) e
fault-at_hit c hits i d e l none =
    let within : i < length (places_of hits) = omega (arith, l, length-map hits (λ (hit : ℕ × ℕ). hit.1)) in
    let same : get_or (places_of hits) i 0 ≡ (get_or hits i d).1 = list.get_or-map (λ (hit : ℕ × ℕ). hit.1) hits i d 0 l in
    record { i = i; within = within; no_text = subst (λ (place : ℕ). IsNoText c place e) (sym same) none }

module _ {A : Type 0} (Is : A → Type 0) (number : A → ℕ) where
  -- what holds of one item and of others holds of all in their order
  by_insert : (item : A) (items : List A) → Is item → AllByRecursion Is items → AllByRecursion Is (insert_falling number item items)
  by_insert item [] is all = (is, tt)
  by_insert item (first ∷ rest) is all =
      elim (ltb (number item) (number first))
      as (λ t. AllByRecursion Is (cond t (first ∷ insert_falling number item rest) (item ∷ first ∷ rest)))
      [ true ↦ (all.0, by_insert item rest is all.1) | false ↦ (is, all) ]

  -- by falling numbers
  by_falling : (items : List A) → AllByRecursion Is items → AllByRecursion Is (falling number items)
  by_falling [] all = tt
  by_falling (item ∷ items) all = by_insert item (falling number items) all.0 (by_falling items all.1)

-- what holds of the places of hits holds of them in the order that is asked for
in_order_all : (Is : ℕ → Type 0) (which : Which) (offers : List (ℕ × ℕ)) → All (λ hit. Is hit.1) offers
    → All (λ hit. Is hit.1) (in_order which offers)
in_order_all Is Kept offers all = all
in_order_all Is Candidates offers all =
    let Named : (ℕ × ℕ) → Type 0 = λ hit. Is hit.1 in
    All-from_recursion Named _ (by_falling Named (λ hit. hit.0) offers (recursion_from_All Named offers all))

-- where the types of hits are not given, one that a list names is no text, or memory is short
pub read_stops : {X : Type 0} (c : List ℕ) (lists : RuleLists) (name : List ℕ) (after : Budget) (which : Which) (offers : List (ℕ × ℕ))
    (r : Result X CacheFault) → All (λ hit. (lists_part c lists name).Kind hit.1) offers
    → IfErr r (IsTextsStop c (places_of (in_order which offers))) → IfErr r (IsHitsFault c lists name after)
read_stops c lists name after which offers r named stops =
    let Is : ℕ → Type 0 = (lists_part c lists name).Kind in
    let places : List ℕ = places_of (in_order which offers) in
    let all : All Is places = All-map Is (λ (hit : ℕ × ℕ). hit.1) (in_order which offers) (in_order_all Is which offers named) in
    IfErr-weaker r (IsTextsStop c places) (IsHitsFault c lists name after)
    (λ e. ⊎_elim
    (λ (fault : IsPlaceFault c places e).
    inr (inl (record { place = get_or places fault.i 0; named = All-get_or Is places fault.i 0 fault.within all; no_text = fault.no_text })))
    (λ memory. inr (inr (inr memory)))) stops
