-- The spellings of a text are the texts that fold as it does.
use Rattle.std.proofs.Common.{◌≡◌, ℕ, zero, suc, ◌-◌, ◌≤◌, nat_le, Bool, true, false, cond, ◌&&◌, List, [], ◌∷◌, map, drop, ◌==◌}
use Rattle.std.proofs.Common.{length, get_or, refl, sym, ap, ap₂, ◌∙◌, arith, ◌⊎◌, inl, inr}
use Rattle.std.specs.List.{All, Contains, flat_map}
use Rattle.std.proofs.lemmas.Bool.{eqb-true}
use Rattle.std.proofs.lemmas.Bool.Decides.{nat_tests}
use Rattle.std.proofs.lemmas.List.{get_or-map, length-map}
use Rattle.std.proofs.lemmas.List.Elements.{All-append, All-cons, All-contains, All-head, All-map, All-same, All-nil, All-tail, All-weaker}
use Rattle.std.proofs.lemmas.List.Elements.{Contains-append_left, Contains-append_right}
use Rattle.mime_base.specs.Kept.Hidden.{cases_of, spellings, SpellingsFoldAlike}
use Rattle.mime_base.specs.Matching.Folding.{compared, folded}

-- what f gives of an element is an element of what f gives
Contains-map : {X Y : Type 0} (f : X → Y) (xs : List X) (x : X) → Contains xs x → Contains (map f xs) (f x)
Contains-map f xs x (k, within, is) =
    (k, (let same = length-map xs f in omega arith), get_or-map f xs k x (f x) within ∙ ap f is)

-- whether a byte is from 97 to 122
small : (b : ℕ) → ((97 ≤ b) × (b ≤ 122) × ((nat_le 97 b && nat_le b 122) ≡ true)) ⊎ ((nat_le 97 b && nat_le b 122) ≡ false)
small b = by_cases (nat_le 97 b && nat_le b 122) refl
  where
    by_cases : (t : Bool) → (nat_le 97 b && nat_le b 122) ≡ t →
        ((97 ≤ b) × (b ≤ 122) × ((nat_le 97 b && nat_le b 122) ≡ true)) ⊎ ((nat_le 97 b && nat_le b 122) ≡ false)
    by_cases true is = inl (grind (arith, nat_tests), grind (arith, nat_tests), is)
    by_cases false is = inr is

-- the cases of a folded byte fold to it
cases-fold : (b : ℕ) → All (λ c. folded c ≡ folded b) (cases_of (folded b))
cases-fold b = elim (small (folded b)) [
  | inl (low, high, is) ↦ (let first : folded (folded b) ≡ folded b = grind (arith, nat_tests) in
      let second : folded (folded b - 32) ≡ folded b = grind (arith, nat_tests) in
      All-same alike _ _ (ap (λ t. cond t (folded b ∷ (folded b - 32) ∷ []) (folded b ∷ [])) is)
      (All-cons alike (folded b) ((folded b - 32) ∷ []) first (All-cons alike (folded b - 32) [] second (All-nil alike))))
  | inr is ↦ (let first : folded (folded b) ≡ folded b = grind (arith, nat_tests) in
      All-same alike _ _ (ap (λ t. cond t (folded b ∷ (folded b - 32) ∷ []) (folded b ∷ [])) is)
      (All-cons alike (folded b) [] first (All-nil alike)))
]
  where
    alike : ℕ → Type 0
    alike c = folded c ≡ folded b

-- and a byte that folds to it is one of them
fold-cases : (b c : ℕ) → folded c ≡ folded b → Contains (cases_of (folded b)) c
fold-cases b c alike = elim (small (folded b)) [
  | inl (low, high, is) ↦ rw is (by_cases (c == folded b) refl low)
  | inr is ↦ (let same : folded b ≡ c = grind (arith, nat_tests) in rw is (0, omega arith, same))
]
  where
    by_cases : (t : Bool) → (c == folded b) ≡ t → 97 ≤ folded b → Contains (folded b ∷ (folded b - 32) ∷ []) c
    by_cases true is low = (0, omega arith, sym (eqb-true c (folded b) is))
    by_cases false is low = (let same : folded b - 32 ≡ c = grind (arith, nat_tests) in (1, omega arith, same))

-- with one of these bytes first, spellings of the rest are those of a text
all-first : (b : ℕ) (rest : List ℕ) (texts : List (List ℕ)) → All (λ other. compared false other ≡ compared false rest) texts →
    (cases : List ℕ) → All (λ c. folded c ≡ folded b) cases →
    All (λ other. compared false other ≡ compared false (b ∷ rest)) (flat_map (λ first. map (λ text. first ∷ text) texts) cases)
all-first b rest texts folds [] cases = All-nil _
all-first b rest texts folds (c ∷ more) cases =
    let alike : List ℕ → Type 0 = λ other. compared false other ≡ compared false (b ∷ rest) in
    let first = All-head (λ c. folded c ≡ folded b) c more cases in
    All-append alike (map (λ text. c ∷ text) texts) (flat_map (λ first. map (λ text. first ∷ text) texts) more)
    (All-map alike (λ text. c ∷ text) texts
    (All-weaker (λ text. compared false text ≡ compared false rest) (λ text. alike (c ∷ text))
    (λ text is. ap₂ (λ x xs. x ∷ xs) first is) texts folds))
    (all-first b rest texts folds more (All-tail (λ c. folded c ≡ folded b) c more cases))

-- each spelling folds as the text does
spellings-fold : (text : List ℕ) → All (λ other. compared false other ≡ compared false text) (spellings (compared false text))
spellings-fold [] = All-cons (λ other. compared false other ≡ []) [] [] refl (All-nil _)
spellings-fold (b ∷ rest) = all-first b rest (spellings (compared false rest)) (spellings-fold rest) (cases_of (folded b)) (cases-fold b)

-- what is spelled with one of these bytes first
spelled-first : (cases : List ℕ) (c : ℕ) (texts : List (List ℕ)) (text : List ℕ) → Contains cases c → Contains texts text →
    Contains (flat_map (λ first. map (λ text. first ∷ text) texts) cases) (c ∷ text)
spelled-first [] c texts text (k, within, is) among = absurd (omega arith)
spelled-first (x ∷ cases) c texts text (zero, within, is) among =
    Contains-append_left (map (λ text. x ∷ text) texts) (flat_map (λ first. map (λ text. first ∷ text) texts) cases) (c ∷ text)
    (rw is (Contains-map (λ text. c ∷ text) texts text among))
spelled-first (x ∷ cases) c texts text (suc k, within, is) among =
    Contains-append_right (map (λ text. x ∷ text) texts) (flat_map (λ first. map (λ text. first ∷ text) texts) cases) (c ∷ text)
    (spelled-first cases c texts text (k, omega arith, is) among)

-- and a text that folds so is one of the spellings
pub fold-spellings : (text other : List ℕ) → compared false other ≡ compared false text → Contains (spellings (compared false text)) other
fold-spellings [] [] alike = (0, omega arith, refl)
fold-spellings [] (c ∷ other) alike = absurd (let long = ap length alike in omega arith)
fold-spellings (b ∷ text) [] alike = absurd (let long = ap length alike in omega arith)
fold-spellings (b ∷ text) (c ∷ other) alike =
    spelled-first (cases_of (folded b)) c (spellings (compared false text)) other
    (fold-cases b c (ap (λ xs. get_or xs 0 0) alike)) (fold-spellings text other (ap (drop 1) alike))

-- they are exactly these
pub spellings_fold_alike : SpellingsFoldAlike
spellings_fold_alike text other = (
  λ among. All-contains (λ other. compared false other ≡ compared false text) _ other (spellings-fold text) among,
  λ alike. fold-spellings text other alike,
)
