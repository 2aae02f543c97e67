-- What is taken of a list, and what is left of it.
use Rattle.std.proofs.Common.{◌≡◌, ◌∙◌, ℕ, true, List, [], ◌∷◌, ◌++◌, Option, Some, None, ap, append-nil, append_assoc, refl, subst, sym}
use Rattle.std.specs.Option.{option_map}
use Rattle.mime_lookup.specs.Content.{Health, broken, sound, untold}
use Rattle.mime_tool.specs.Files.{Stored, bytes, closed, dangling, folder, nothing, special, unknown, unreadable}
use Rattle.mime_tool.specs.Listed.{IsUnlisted, listed}
use Rattle.mime_tool.specs.Names.{Gives, IsAtEnd, TakesBytes, has_no_zero}
use Rattle.mime_tool.specs.Process.{given_by}
use Rattle.mime_tool.proofs.NameLemmas.FirstNames.{listed-alone, listed-ended}

-- what is left where these bytes were read and not given yet
abbrev pub left_of : List ℕ → Option (List ℕ) → Health → Stored
left_of unread rest health = given_by (option_map (λ bs. unread ++ bs) rest) health

-- a front of what was read is taken
pub taken_front : (front unread : List ℕ) (rest : Option (List ℕ)) (health : Health)
    → TakesBytes (left_of (front ++ unread) rest health) front (left_of unread rest health)
taken_front front unread None health = tt
taken_front [] [] (Some []) sound = ([], refl, refl)
taken_front [] [] (Some (r ∷ rs)) sound = (r ∷ rs, refl, refl)
taken_front [] (u ∷ us) (Some rs) sound = ((u ∷ us) ++ rs, refl, refl)
taken_front (b ∷ front) [] (Some []) sound = ([], ap (λ (bs : List ℕ). b ∷ bs) (append_assoc front [] []), refl)
taken_front (b ∷ front) [] (Some (r ∷ rs)) sound = (r ∷ rs, ap (λ (bs : List ℕ). b ∷ bs) (append_assoc front [] (r ∷ rs)), refl)
taken_front (b ∷ front) (u ∷ us) (Some rs) sound =
    ((u ∷ us) ++ rs, ap (λ (bs : List ℕ). b ∷ bs) (append_assoc front (u ∷ us) rs), refl)
taken_front [] [] (Some []) broken = (refl, refl)
taken_front [] [] (Some (r ∷ rs)) broken = tt
taken_front [] (u ∷ us) (Some rs) broken = tt
taken_front (b ∷ front) unread (Some rs) broken = tt
taken_front [] [] (Some []) untold = tt
taken_front [] [] (Some (r ∷ rs)) untold = tt
taken_front [] (u ∷ us) (Some rs) untold = tt
taken_front (b ∷ front) unread (Some rs) untold = tt

-- what is taken twice
pub takes-append : (a b c : Stored) (xs ys : List ℕ) → TakesBytes a xs b → TakesBytes b ys c → TakesBytes a (xs ++ ys) c
takes-append unknown b c xs ys p q = tt
takes-append (bytes bs) b c xs ys p q =
    let left = subst (λ (s : Stored). TakesBytes s ys c) p.2 q in
    (left.0, p.1 ∙ (ap (λ (rest : List ℕ). xs ++ rest) left.1 ∙ sym (append_assoc xs ys left.0)), left.2)
takes-append unreadable b c xs ys p q =
    let left = subst (λ (s : Stored). TakesBytes s ys c) p.1 q in
    (rw (p.0, left.0) refl, left.1)
takes-append nothing b c xs ys p q = absurd p
takes-append dangling b c xs ys p q = absurd p
takes-append folder b c xs ys p q = absurd p
takes-append (special kind) b c xs ys p q = absurd p
takes-append closed b c xs ys p q = absurd p

-- what is taken, and then nothing
pub takes_kept : (a b c : Stored) (xs : List ℕ) → TakesBytes a xs b → TakesBytes b [] c → TakesBytes a xs c
takes_kept a b c xs p q = subst (λ (bs : List ℕ). TakesBytes a bs c) (append-nil xs) (takes-append a b c xs [] p q)

-- a list of which bytes can be taken isn't read either where what is left isn't
pub unlisted_before : (a b : Stored) (xs : List ℕ) → TakesBytes a xs b → IsUnlisted b → IsUnlisted a
unlisted_before (bytes bs) b xs p q = subst IsUnlisted p.2 q
unlisted_before unknown b xs p q = tt
unlisted_before unreadable b xs p q = tt
unlisted_before nothing b xs p q = tt
unlisted_before dangling b xs p q = tt
unlisted_before folder b xs p q = tt
unlisted_before (special kind) b xs p q = tt
unlisted_before closed b xs p q = tt

-- a name that is ended is given
pub gives_ended : (a b : Stored) (name : List ℕ) → has_no_zero name ≡ true → TakesBytes a (name ++ 0 ∷ []) b → Gives a name b
gives_ended unknown b name free p = tt
gives_ended (bytes bs) b name free p =
    (p.0, ap listed (p.1 ∙ append_assoc name (0 ∷ []) p.0) ∙ listed-ended name p.0 free, p.2)
gives_ended unreadable b [] free p = cc
gives_ended unreadable b (x ∷ name) free p = cc
gives_ended nothing b name free p = absurd p
gives_ended dangling b name free p = absurd p
gives_ended folder b name free p = absurd p
gives_ended (special kind) b name free p = absurd p
gives_ended closed b name free p = absurd p

-- so is a last one that isn't ended
pub gives_last : (a b c : Stored) (x : ℕ) (name : List ℕ) → has_no_zero (x ∷ name) ≡ true → TakesBytes a (x ∷ name) b → IsAtEnd b → TakesBytes b [] c
    → Gives a (x ∷ name) c
gives_last unknown b c x name free p ended q = tt
gives_last (bytes bs) b c x name free p ended q =
    let none : p.0 ≡ [] = subst IsAtEnd p.2 ended in
    let left = subst (λ (s : Stored). TakesBytes s [] c) p.2 q in
    let rest : left.0 ≡ [] = sym left.1 ∙ none in (
      left.0,
      rw rest (ap listed (p.1 ∙ ap (λ (rest : List ℕ). (x ∷ name) ++ rest) none ∙ append-nil (x ∷ name)) ∙ listed-alone x name free),
      left.2,
    )
gives_last unreadable b c x name free p ended q = cc
gives_last nothing b c x name free p ended q = absurd p
gives_last dangling b c x name free p ended q = absurd p
gives_last folder b c x name free p ended q = absurd p
gives_last (special kind) b c x name free p ended q = absurd p
gives_last closed b c x name free p ended q = absurd p

-- a list is at its end where nothing was taken and what is left is
pub at_end_before : (a b : Stored) → TakesBytes a [] b → IsAtEnd b → IsAtEnd a
at_end_before unknown b p ended = tt
at_end_before (bytes bs) b p ended =
    let none : p.0 ≡ [] = subst IsAtEnd p.2 ended in
    p.1 ∙ none
at_end_before unreadable b p ended = subst IsAtEnd p.1 ended
at_end_before nothing b p ended = absurd p
at_end_before dangling b p ended = absurd p
at_end_before folder b p ended = absurd p
at_end_before (special kind) b p ended = absurd p
at_end_before closed b p ended = absurd p
