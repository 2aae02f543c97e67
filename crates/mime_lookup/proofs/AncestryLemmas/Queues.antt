-- A queue of types that grows, and candidates that are skipped.
use Rattle.std.proofs.Common.{◌≡◌, ℕ, ◌+◌, ◌<◌, List, [], ◌∷◌, ◌++◌, length, map, get_or, take, drop, drop-cons, add-one}
use Rattle.std.proofs.Common.{sym, ap, subst, inr, arith, ◌∙◌, append_assoc}
use Rattle.std.proofs.lemmas.List.{get_or-map, length-append, length-map, map-append, take_more}
use Rattle.std.proofs.lemmas.List.Elements.{Contains-append_right, Contains-get_or}
use Rattle.std.specs.Prelude.{Contains}
use Rattle.std.specs.Borrow.{Bor}
use Rattle.mime_base.specs.Database.Subclass.{Pairs, IsA}
use Rattle.mime_lookup.specs.Ancestry.{kinds_of}
use Rattle.mime_lookup.specs.Choice.{IsFirst}

-- one type more is put at the end, after a step
pub queued-more : (step : List ℕ → List ℕ) (kinds : List (Bor (List ℕ))) (before queue after : List (List ℕ)) (i : ℕ)
    (one : List ℕ) (d : Bor (List ℕ)) → i < length kinds → one ≡ step (get_or kinds i d).now → after ≡ queue ++ one ∷ []
    → queue ≡ before ++ map step (kinds_of (take i kinds)) → after ≡ before ++ map step (kinds_of (take (i + 1) kinds))
queued-more step kinds before queue after i one d within is grown so_far =
    let done = map step (kinds_of (take i kinds)) in
    let next = get_or kinds i d in
    let last : map step (kinds_of (take (i + 1) kinds)) ≡ done ++ one ∷ [] =
    ap (λ ks. map step (kinds_of ks)) (take_more kinds i d within)
    ∙ ap (map step) (map-append (λ (k : Bor (List ℕ)). k.now) (take i kinds) (next ∷ []))
    ∙ map-append step (kinds_of (take i kinds)) (next.now ∷ [])
    ∙ ap (λ k. done ++ k ∷ []) (sym is) in
    grown ∙ ap (λ q. q ++ one ∷ []) so_far ∙ append_assoc before done (one ∷ []) ∙ ap (λ more. before ++ more) (sym last)

-- so the queue is longer by one
pub length-queued : (queue after : List (List ℕ)) (one : List ℕ) → after ≡ queue ++ one ∷ [] → length after ≡ length queue + 1
length-queued queue after one grown = ap length grown ∙ length-append queue (one ∷ [])

-- a type that is no subclass of the base is skipped
pub passed_over : (pairs : Pairs) (base default : List ℕ) (kinds : List (Bor (List ℕ))) (i : ℕ) (d : Bor (List ℕ))
    → i < length kinds → (IsA pairs (get_or kinds i d).now base → ⊥) → (answer : List ℕ)
    → IsFirst pairs base default (kinds_of (drop (i + 1) kinds)) answer
    → IsFirst pairs base default (kinds_of (drop i kinds)) answer
passed_over pairs base default kinds i d within never answer rest =
    subst (λ (ks : List (Bor (List ℕ))). IsFirst pairs base default (kinds_of ks) answer) (sym (drop-cons kinds i d within))
    (inr (never, rw add-one at rest))

-- a candidate is one of the default and the candidates
pub candidate : (default : List ℕ) (kinds : List (Bor (List ℕ))) (i : ℕ) (d : Bor (List ℕ)) → i < length kinds
    → Contains (default ∷ kinds_of kinds) (get_or kinds i d).now
candidate default kinds i d within =
    let now : Bor (List ℕ) → List ℕ = λ kind. kind.now in
    Contains-append_right (default ∷ []) (kinds_of kinds) (get_or kinds i d).now
    (subst (λ (kind : List ℕ). Contains (kinds_of kinds) kind) (get_or-map now kinds i d [] within)
    (Contains-get_or (kinds_of kinds) i [] (omega (arith, within, length-map kinds now))))
