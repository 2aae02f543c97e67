-- Where there is no name there is no type, and the other way round.
use Rattle.std.proofs.Common.{◌≡◌, ◌∙◌, List, [], ◌∷◌, length, map, refl, sym, ap, arith}
use Rattle.std.proofs.lemmas.List.{length-map}
use Rattle.mime_text.proofs.merging.types.Types.is_empty.Goals as goal

-- a list without a length is empty
none_left : {A : Type 0} (xs : List A) → length xs ≡ 0 → xs ≡ []
none_left [] none = refl
none_left (x ∷ xs) none = absurd (omega arith)

pub returns : goal.returns
returns c = (
  (λ none. sym c.self.view_is ∙ ap (map (λ name. name.items)) (none_left c.self.inside.names.keys (c.is_empty.ensures.0 none))),
  (λ none. c.is_empty.ensures.1
      (sym (length-map c.self.inside.names.keys (λ name. name.items)) ∙ ap length (c.self.view_is ∙ none))),
)
