-- Items that are written into an array from its front on.
use Rattle.std.proofs.Common.{◌≡◌, ◌∙◌, ℕ, ◌+◌, ◌<◌, List, [], ◌∷◌, ◌++◌, length, map, take, drop, set, get_or, sym, ap, ap₂, arith}
use Rattle.std.proofs.lemmas.List.{drop-drop, drop-set-lt, map-append, take_more, take_more_set}

module _ {X Y : Type 0} (view : X → Y) (array : List X) (i : ℕ) (item : X) where
  -- one more is written
  pub one_more : (items : List Y) (d : Y) → i < length array → i < length items → view item ≡ get_or items i d →
      map view (take i array) ≡ take i items → map view (take (i + 1) (set array i item)) ≡ take (i + 1) items
  one_more items d room more is so_far =
      ap (map view) (take_more_set array i item room)
      ∙ map-append _ (take i array) (item ∷ [])
      ∙ ap₂ (λ front (last : Y). front ++ last ∷ []) so_far is
      ∙ sym (take_more items i d more)

  -- and the rest is as it was
  pub rest_stays : (before : List X) → drop i array ≡ drop i before → drop (i + 1) (set array i item) ≡ drop (i + 1) before
  rest_stays before so_far =
      drop-set-lt (i + 1) array i item (omega arith) ∙ sym (drop-drop 1 i array) ∙ ap (drop 1) so_far ∙ drop-drop 1 i before
