-- A set of marks, by the list of its keys.
use Rattle.std.proofs.Common.{◌≡◌, ℕ, false, List, [], ◌∷◌, ◌++◌, cond, ◌||◌, bytes_eq}
use Rattle.std.proofs.Common.{sym, ap, ⊎_elim, ◌∙◌}
use Rattle.std.specs.List.{list_any}
use Rattle.std.proofs.lemmas.Bool.{cases_Bool, cond-false}
use Rattle.std.proofs.lemmas.List.{map-append}
use Rattle.std.proofs.lemmas.Slice.Eq.{bytes_eq-Decides}
use denote.Bor.{Bor}
use Rattle.mime_lookup.specs.Ancestry.{is_one_of, kinds_of}
use Rattle.mime_lookup.proofs.AncestryLemmas.PairSteps.{is_one_of-here, is_one_of-nil, is_one_of-past}

-- a set of marks has a type
pub marked-any : (keys : List (Bor (List ℕ))) (kind : List ℕ) →
    is_one_of (kinds_of keys) kind ≡ list_any (λ key. bytes_eq kind key.now) keys
marked-any [] kind = is_one_of-nil kind
marked-any (key ∷ keys) kind =
    ⊎_elim
    (λ hit.
    is_one_of-here key.now kind (kinds_of keys) hit
    ∙ sym (ap (λ b. b || list_any (λ k. bytes_eq kind k.now) keys)
    ((bytes_eq-Decides kind key.now).1 (sym ((bytes_eq-Decides key.now kind).0 hit)))))
    (λ miss.
    is_one_of-past key.now kind (kinds_of keys) miss ∙ marked-any keys kind
    ∙ sym (ap (λ b. b || list_any (λ k. bytes_eq kind k.now) keys) (other key.now kind miss)))
    (cases_Bool (bytes_eq key.now kind))
  where
    other : (left right : List ℕ) → bytes_eq left right ≡ false → bytes_eq right left ≡ false
    other left right miss =
        ⊎_elim
        (λ hit. absurd (cc (miss, (bytes_eq-Decides left right).1 (sym ((bytes_eq-Decides right left).0 hit)))))
        (λ differs. differs)
        (cases_Bool (bytes_eq right left))

-- a type that is not marked is added to the set
pub mark-more : (keys : List (Bor (List ℕ))) (kind : Bor (List ℕ)) → is_one_of (kinds_of keys) kind.now ≡ false →
    kinds_of (cond (list_any (λ key. bytes_eq kind.now key.now) keys) keys (keys ++ kind ∷ [])) ≡ kinds_of keys ++ kind.now ∷ []
mark-more keys kind new =
    ap kinds_of (cond-false _ keys (keys ++ kind ∷ []) (sym (marked-any keys kind.now) ∙ new))
    ∙ map-append (λ text. text.now) keys (kind ∷ [])
