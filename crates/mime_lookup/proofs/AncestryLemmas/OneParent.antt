-- A scan over pairs for the one parent of a type.
use Rattle.std.proofs.Common.{◌≡◌, ℕ, true, false, List, ◌∷◌, ◌++◌, Option, None, Some, ap, ◌∙◌, bytes_eq, true≢false}
use Rattle.std.specs.Borrow.{Bor}
use Rattle.std.specs.Option.{is_some, option_to_list}
use Rattle.mime_base.specs.Database.Subclass.{parents}
use Rattle.mime_lookup.specs.Ancestry.{kinds_of}
use Rattle.mime_lookup.proofs.AncestryLemmas.PairSteps.{parents-here, parents-past}

module _ (all : List (List ℕ)) (name parent kind : List ℕ) (rest : List (List ℕ × List ℕ)) where
  -- a pair of the type is its first one
  pub parent_found : (before found : Option (Bor (List ℕ))) (target : Bor (List ℕ)) →
      all ≡ kinds_of (option_to_list before) ++ parents ((name, parent) ∷ rest) kind → is_some before ≡ false → bytes_eq name kind ≡ true →
      target.now ≡ parent → found ≡ Some target → all ≡ kinds_of (option_to_list found) ++ parents rest kind
  parent_found (Some other) found target left new hit is kept = absurd (true≢false new)
  parent_found None found target left new hit is kept = rw (kept, is) (left ∙ parents-here name parent kind rest hit)

  -- a pair of another type is skipped
  pub parent_passed : (before found : Option (Bor (List ℕ))) →
      all ≡ kinds_of (option_to_list before) ++ parents ((name, parent) ∷ rest) kind → bytes_eq name kind ≡ false →
      found ≡ before → all ≡ kinds_of (option_to_list found) ++ parents rest kind
  parent_passed before found left miss kept =
      rw kept (left ∙ ap (λ ps. kinds_of (option_to_list before) ++ ps) (parents-past name parent kind rest miss))
