use Rattle.std.proofs.Common.{◌++◌, ◌∷◌, [], ℕ, List, replicate, ap, ◌∙◌}
use Rattle.mime_names.proofs.RowLemmas.{tree-none}
use Rattle.mime_names.proofs.tree.new_tree.Goals as goal

pub returns : goal.returns
returns c =
    tree-none record { starts = c.push.new.self; slots = c.extend_from_slice.new.self }
    (c.in_ok-push.ensures.items ∙ ap (λ (xs : List ℕ). xs ++ 0 ∷ []) c.in_ok-starts.ensures.items)
    (c.in_ok-extend_from_slice.ensures.items ∙ ap (λ (xs : List ℕ). xs ++ replicate 64 0) c.in_ok-slots.ensures.items)
