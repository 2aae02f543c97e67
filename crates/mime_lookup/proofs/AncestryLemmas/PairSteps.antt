-- One step of a scan over pairs or over marks.
use Rattle.std.proofs.Common.{◌≡◌, ℕ, ◌+◌, ◌<◌, true, false, List, [], ◌∷◌, ◌++◌, length, get_or, drop, map, bytes_eq}
use Rattle.std.proofs.Common.{refl, sym, ap, ◌∙◌, append_assoc, Some}
use Rattle.std.proofs.lemmas.List.{drop_more}
use Rattle.mime_base.specs.Database.Subclass.{resolved, parents}
use Rattle.mime_lookup.specs.Ancestry.{is_one_of}
use Rattle.mime_view.specs.Pairs.{looked_up}

-- the items from one on
pub items_from : {X : Type 0} (xs : List X) (i : ℕ) (x : X) → i < length xs → x ≡ get_or xs i x → drop i xs ≡ x ∷ drop (i + 1) xs
items_from xs i x within is = drop_more xs i x within ∙ ap (λ y. y ∷ drop (i + 1) xs) (sym is)

-- an alias pair of the type, another, and none
pub resolved-here : (alias target kind : List ℕ) (pairs : List (List ℕ × List ℕ)) → bytes_eq alias kind ≡ true →
    resolved ((alias, target) ∷ pairs) kind ≡ target
unfolding resolved
resolved-here alias target kind pairs hit = rw hit refl

-- a pair of another name is skipped
pub resolved-past : (alias target kind : List ℕ) (pairs : List (List ℕ × List ℕ)) → bytes_eq alias kind ≡ false →
    resolved ((alias, target) ∷ pairs) kind ≡ resolved pairs kind
unfolding resolved
resolved-past alias target kind pairs miss = rw miss refl

-- without pairs a name stands for itself
pub resolved-nil : (kind : List ℕ) → resolved [] kind ≡ kind
unfolding resolved
resolved-nil kind = refl

-- a pair of the type, another, and none
pub parents-here : (name parent kind : List ℕ) (pairs : List (List ℕ × List ℕ)) → bytes_eq name kind ≡ true →
    parents ((name, parent) ∷ pairs) kind ≡ parent ∷ parents pairs kind
unfolding parents
parents-here name parent kind pairs hit = rw hit refl

-- a pair of another type is skipped
pub parents-past : (name parent kind : List ℕ) (pairs : List (List ℕ × List ℕ)) → bytes_eq name kind ≡ false →
    parents ((name, parent) ∷ pairs) kind ≡ parents pairs kind
unfolding parents
parents-past name parent kind pairs miss = rw miss refl

-- without pairs no type has parents
pub parents-nil : (kind : List ℕ) → parents [] kind ≡ []
unfolding parents
parents-nil kind = refl

-- an icon of the type
pub looked_up-here : (kind icon key : List ℕ) (pairs : List (List ℕ × List ℕ)) → bytes_eq kind key ≡ true →
    looked_up ((kind, icon) ∷ pairs) key ≡ Some icon
looked_up-here kind icon key pairs hit = rw hit refl

-- an icon of another type is skipped
pub looked_up-past : (kind icon key : List ℕ) (pairs : List (List ℕ × List ℕ)) → bytes_eq kind key ≡ false →
    looked_up ((kind, icon) ∷ pairs) key ≡ looked_up pairs key
looked_up-past kind icon key pairs miss = rw miss refl

-- a mark that is the type, another, and none
pub is_one_of-here : (mark kind : List ℕ) (marks : List (List ℕ)) → bytes_eq mark kind ≡ true → is_one_of (mark ∷ marks) kind ≡ true
unfolding is_one_of
is_one_of-here mark kind marks hit = rw hit refl

-- another mark is skipped
pub is_one_of-past : (mark kind : List ℕ) (marks : List (List ℕ)) → bytes_eq mark kind ≡ false →
    is_one_of (mark ∷ marks) kind ≡ is_one_of marks kind
unfolding is_one_of
is_one_of-past mark kind marks miss = rw miss refl

-- without marks nothing is marked
pub is_one_of-nil : (kind : List ℕ) → is_one_of [] kind ≡ false
unfolding is_one_of
is_one_of-nil kind = refl

-- what is pushed is the first of what was left
pub pushed : (step : List ℕ → List ℕ) (queue : List (List ℕ)) (one target : List ℕ) (rest all : List (List ℕ)) → one ≡ step target →
    all ≡ target ∷ rest → (queue ++ one ∷ []) ++ map step rest ≡ queue ++ map step all
pushed step queue one target rest all is first = rw (is, first) (append_assoc queue (step target ∷ []) (map step rest))
