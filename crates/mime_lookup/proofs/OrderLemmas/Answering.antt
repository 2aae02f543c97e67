-- The answer of the checking order, by the way it is found.
use Rattle.std.proofs.Common.{◌≡◌, ℕ, Bool, true, false, MatchBool, cond, List, [], ◌∷◌, Option, None, Some, get_or}
use Rattle.std.proofs.Common.{refl, sym, subst}
use Rattle.std.specs.Prelude.{IfSome}
use Rattle.mime_base.specs.Database.{PlainDatabase, pairs_of}
use Rattle.mime_base.specs.Database.Subclass.{Pairs}
use Rattle.mime_base.specs.declared.magic.host.Host.{Host}
use denote.Bor.{Bor}
use Rattle.mime_lookup.specs.Ancestry.{kinds_of}
use Rattle.mime_lookup.specs.CheckingOrder.{Chooses, are_one_type, before_globs}
use Rattle.mime_lookup.specs.Choice.{ChoosesAmong, IsFirst, kept}
use Rattle.mime_lookup.specs.Sniffing.{sniffed}
use Rattle.mime_lookup.specs.declared.order.Order.{Order}
use Rattle.mime_lookup.specs.declared.order.Order.TheVariants.{ContentOnly, GlobsFirst, MagicFirst}

-- of kept types that are one type the first is chosen
pub one_type_chosen : (pairs : Pairs) (kinds : List (List ℕ)) (base : List ℕ) → are_one_type kinds ≡ true →
    ChoosesAmong pairs kinds base (get_or kinds 0 [])
one_type_chosen pairs [] base one = absurd cc
one_type_chosen pairs (first ∷ more) base one =
    subst (λ b. MatchBool b (first ≡ first) (IsFirst pairs base first (first ∷ more) first)) (sym one) refl

-- and no other is
pub one_type_only : (pairs : Pairs) (kinds : List (List ℕ)) (base answer : List ℕ) → are_one_type kinds ≡ true →
    ChoosesAmong pairs kinds base answer → answer ≡ get_or kinds 0 []
one_type_only pairs [] base answer one chosen = absurd cc
one_type_only pairs (first ∷ more) base answer one chosen =
    subst (λ b. MatchBool b (answer ≡ first) (IsFirst pairs base first (first ∷ more) answer)) one chosen

-- the first of some types
pub first_text : (kept : List (Bor (List ℕ))) (d : Bor (List ℕ)) → are_one_type (kinds_of kept) ≡ true →
    (get_or kept 0 d).now ≡ get_or (kinds_of kept) 0 []
first_text [] d one = absurd cc
first_text (first ∷ more) d one = refl

module _ (b : PlainDatabase) (name : List ℕ) (host : Host) (order : Order) where
  module _ (globs : order ≡ GlobsFirst) (kinds : List (List ℕ)) (are : kinds ≡ kept (pairs_of b) b.rules name) where
    -- the globs alone
    pub by_globs : (known : Option (Option (List ℕ))) (answer : List ℕ) → are_one_type kinds ≡ true → answer ≡ get_or kinds 0 [] →
        IfSome known (λ content. Chooses b name content host order answer)
    unfolding Chooses before_globs
    by_globs None answer one is = tt
    by_globs (Some content) answer one is =
        rw (globs, is, ← are) (one_type_chosen (pairs_of b) kinds (sniffed b content host) one)

    -- the globs conflict or are silent
    pub by_globs_and_content : (known : Option (Option (List ℕ))) (found answer : List ℕ) →
        IfSome known (λ content. found ≡ sniffed b content host) → ChoosesAmong (pairs_of b) kinds found answer →
        IfSome known (λ content. Chooses b name content host order answer)
    unfolding Chooses before_globs
    by_globs_and_content None found answer same chosen = tt
    by_globs_and_content (Some content) found answer same chosen = rw (globs, ← are, ← same) chosen

  module _ (magic : order ≡ MagicFirst) (found : List ℕ) (high : Bool) where
    -- magic of high priority
    pub by_magic : (known : Option (Option (List ℕ))) → high ≡ true →
        IfSome known (λ content. cond high (Some found) None ≡ before_globs b content host MagicFirst) →
        IfSome known (λ content. Chooses b name content host order found)
    unfolding Chooses
    by_magic None is first = tt
    by_magic (Some content) is first = rw (magic, ← first, is) refl

    -- magic of low priority, or none
    pub by_magic_and_globs : (known : Option (Option (List ℕ))) (kinds : List (List ℕ)) (answer : List ℕ) →
        kinds ≡ kept (pairs_of b) b.rules name → high ≡ false →
        IfSome known (λ content. cond high (Some found) None ≡ before_globs b content host MagicFirst) →
        IfSome known (λ content. found ≡ sniffed b content host) → ChoosesAmong (pairs_of b) kinds found answer →
        IfSome known (λ content. Chooses b name content host order answer)
    unfolding Chooses
    by_magic_and_globs None kinds answer are is first same chosen = tt
    by_magic_and_globs (Some content) kinds answer are is first same chosen =
        rw (magic, ← first, is, ← are, ← same) chosen

  module _ (content : order ≡ ContentOnly) where
    -- what is sniffed
    pub by_content : (known : Option (Option (List ℕ))) (found : List ℕ) → IfSome known (λ content. found ≡ sniffed b content host) →
        IfSome known (λ content. Chooses b name content host order found)
    unfolding Chooses before_globs
    by_content None found same = tt
    by_content (Some known) found same = rw content same
