-- What one more entry adds.
use Rattle.std.proofs.Common.{◌≡◌, List, [], ◌∷◌, ◌++◌, Option, Some, None, ap, ◌∙◌, refl, sym}
use Rattle.std.proofs.lemmas.List.Elements.{filter_map-append}
use Rattle.std.specs.List.{cons_option, filter_map}
use Rattle.std.specs.Option.{option_to_list}

-- an entry more adds what it gives, if anything
pub filter_map-more : {X Y : Type 0} (h : X → Option Y) (xs : List X) (x : X) (before after : List Y) → before ≡ filter_map h xs
    → after ≡ before ++ option_to_list (h x)
    → after ≡ filter_map h (xs ++ x ∷ [])
filter_map-more {Y = Y} h xs x before after so_far added =
    added ∙ ap (λ ys. ys ++ option_to_list (h x)) so_far ∙ ap (λ ys. filter_map h xs ++ ys) (alone (h x))
    ∙ sym (filter_map-append h xs (x ∷ []))
  where
    alone : (given : Option Y) → option_to_list given ≡ cons_option given []
    alone None = refl
    alone (Some y) = refl
