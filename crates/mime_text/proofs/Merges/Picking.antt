-- The marked entries, taken from the back.
use Rattle.std.proofs.Common.{◌≡◌, Bool, true, false, cond, List, [], ◌∷◌, ◌++◌, length, reverse, ap, ap₂, ◌∙◌, refl, sym, append_assoc}
use Rattle.std.proofs.Common.{append-nil, arith}
use Rattle.std.proofs.lemmas.Bool.{and_parts, cond-true, cond-false}
use Rattle.std.proofs.lemmas.List.{reverse-append}
use Rattle.std.specs.List.{list_all}
use Rattle.mime_text.specs.Merging.{picked}

module _ {A : Type 0} where
  -- of entries that are all marked each is one
  pub picked-all : (marks : List Bool) (entries : List A) → length marks ≡ length entries → list_all (λ mark. mark) marks ≡ true
      → picked marks entries ≡ entries
  picked-all [] [] same all = refl
  picked-all [] (x ∷ entries) same all = absurd (omega arith)
  picked-all (m ∷ marks) [] same all = absurd (omega arith)
  picked-all (m ∷ marks) (x ∷ entries) same all =
      let both = and_parts m (list_all (λ mark. mark) marks) all in
      cond-true _ _ _ both.0 ∙ ap (λ ys. x ∷ ys) (picked-all marks entries (omega arith) both.1)

  -- a last entry
  pub picked-last : (marks : List Bool) (entries : List A) (mark : Bool) (entry : A) → length marks ≡ length entries
      → picked (marks ++ mark ∷ []) (entries ++ entry ∷ []) ≡ picked marks entries ++ cond mark (entry ∷ []) []
  picked-last [] [] mark entry same = refl
  picked-last [] (x ∷ entries) mark entry same = absurd (omega arith)
  picked-last (m ∷ marks) [] mark entry same = absurd (omega arith)
  picked-last (m ∷ marks) (x ∷ entries) mark entry same =
      let later = picked-last marks entries mark entry (omega arith) in
      elim m as (λ t. cond t (x ∷ picked (marks ++ mark ∷ []) (entries ++ entry ∷ [])) (picked (marks ++ mark ∷ []) (entries ++ entry ∷ []))
      ≡ cond t (x ∷ picked marks entries) (picked marks entries) ++ cond mark (entry ∷ []) [])
      [ true ↦ ap (λ ys. x ∷ ys) later | false ↦ later ]

  -- a marked last entry is the last that was taken
  pub takes-marked : (marks : List Bool) (entries kept : List A) (mark : Bool) (entry : A) (old_marks : List Bool) (old_entries : List A)
      → old_marks ≡ marks ++ mark ∷ [] → old_entries ≡ entries ++ entry ∷ [] → length marks ≡ length entries → mark ≡ true
      → picked marks entries ++ reverse (kept ++ entry ∷ []) ≡ picked old_marks old_entries ++ reverse kept
  takes-marked marks entries kept mark entry old_marks old_entries ms es same is =
      let taken = picked marks entries in
      ap (λ ys. taken ++ ys) (reverse-append kept (entry ∷ [])) ∙ sym (append_assoc taken (entry ∷ []) (reverse kept))
      ∙ ap (λ ys. ys ++ reverse kept)
      (ap (λ ys. taken ++ ys) (sym (cond-true mark (entry ∷ []) [] is)) ∙ sym (picked-last marks entries mark entry same)
      ∙ ap₂ picked (sym ms) (sym es))

  -- another is left out
  pub leaves-others : (marks : List Bool) (entries kept : List A) (mark : Bool) (entry : A) (old_marks : List Bool) (old_entries : List A)
      → old_marks ≡ marks ++ mark ∷ [] → old_entries ≡ entries ++ entry ∷ [] → length marks ≡ length entries → mark ≡ false
      → picked marks entries ++ reverse kept ≡ picked old_marks old_entries ++ reverse kept
  leaves-others marks entries kept mark entry old_marks old_entries ms es same is_not =
      let taken = picked marks entries in
      ap (λ ys. ys ++ reverse kept)
      (sym (append-nil taken) ∙ ap (λ ys. taken ++ ys) (sym (cond-false mark (entry ∷ []) [] is_not))
      ∙ sym (picked-last marks entries mark entry same) ∙ ap₂ picked (sym ms) (sym es))
