-- A name whose last bytes are compared as a text, from the end on.
use Rattle.std.proofs.Common.{◌≡◌, ℕ, ◌+◌, ◌-◌, ◌<◌, Bool, List, ◌∷◌, length, get_or, drop, sym, ap, ap₂, ◌∙◌, arith}
use Rattle.std.proofs.lemmas.List.{drop_all, drop_more, get_or-drop, get_or-map, length-drop, length-map}
use Rattle.mime_base.specs.Matching.Folding.{compared, compared_byte}

module _ (cased : Bool) (text name : List ℕ) where
  -- texts that are compared as equal have one length
  same-length : (k : ℕ) → compared cased (drop k name) ≡ compared cased text → length name - k ≡ length text
  same-length k same =
      sym (length-drop k name) ∙ sym (length-map (drop k name) (compared_byte cased)) ∙ ap length same ∙ length-map text (compared_byte cased)

  -- a shorter name has no such ending
  pub shorter-other : length name < length text → (k : ℕ) → compared cased (drop k name) ≡ compared cased text → ⊥
  shorter-other less k same = omega (arith, less, same-length k same)

  module _ (start left : ℕ) (ends : start + length text ≡ length name) (within : left < length text) where
    -- one byte more
    pub same-more : compared_byte cased (get_or text left 0) ≡ compared_byte cased (get_or name (start + left) 0) →
        compared cased (drop (left + 1) text) ≡ compared cased (drop (start + left + 1) name) →
        compared cased (drop left text) ≡ compared cased (drop (start + left) name)
    same-more here after =
        ap (compared cased) (drop_more text left 0 within)
        ∙ ap₂ (λ x xs. x ∷ xs) here after
        ∙ sym (ap (compared cased) (drop_more name (start + left) 0 (omega (arith, ends, within))))

    -- where a byte differs no ending is compared as the text
    pub byte-other : (compared_byte cased (get_or text left 0) ≡ compared_byte cased (get_or name (start + left) 0) → ⊥) →
        (k : ℕ) → compared cased (drop k name) ≡ compared cased text → ⊥
    byte-other differs k same =
        let long = same-length k same in
        let place : k + left ≡ start + left = omega (arith, long, ends, within) in
        let inside : left < length (drop k name) = omega (arith, length-drop k name, long, within) in
        differs (sym (sym (get_or-map (compared_byte cased) (drop k name) left 0 0 inside
        ∙ ap (compared_byte cased) (get_or-drop k name left 0 ∙ ap (λ n. get_or name n 0) place))
        ∙ ap (λ xs. get_or xs left 0) same
        ∙ get_or-map (compared_byte cased) text left 0 0 within))

  -- before the first byte is compared
  pub same-none : (start : ℕ) → start + length text ≡ length name →
      compared cased (drop (length text) text) ≡ compared cased (drop (start + length text) name)
  same-none start ends =
      ap (compared cased) (drop_all (length text) text (omega arith) ∙ sym (drop_all (start + length text) name (omega (arith, ends))))
