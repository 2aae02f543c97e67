-- Lines of indent 0 of a cache, in the steps of a pass over its lines.
use Rattle.std.proofs.Common.{◌≡◌, ℕ, suc, ◌+◌, ◌-◌, ◌≤◌, ◌<◌, min, List, [], ◌∷◌, ◌++◌, length, map, take, drop}
use Rattle.std.proofs.Common.{get_or, refl, sym, subst, ap, ap₂, ◌∙◌, arith, length-drop}
use Rattle.std.proofs.lemmas.List.{append_assoc, drop-drop, drop-take, drop_min, map_push}
use Rattle.std.proofs.lemmas.List.Concat.{flat_map-cons}
use Rattle.mime_base.specs.Magic.{Forest, PlainSection}
use Rattle.mime_load.specs.Lent.{behind_first, first_of, lent_forest, sections_over}
use Rattle.mime_load.specs.declared.line.LentLine.{LentLine}
use Rattle.mime_load.specs.declared.section.LentSection.{LentSection}
use Rattle.mime_load.proofs.FlatLines.{lent_forest-line, lent_forest-none, sections_over-from}
use Rattle.mime_lookup.specs.TopLines.{PlainTop, lent_top, lines_of, plain_top, plain_tops, top_lines, tops_of}
use Rattle.mime_lookup.specs.declared.indexed.magic_line.LentTop.{LentTop}
use Rattle.mime_lookup.specs.declared.indexed.top_line.TopLine.{TopLine}

-- a part of a list that reaches up to a place
abbrev pub UpTo : List LentLine → ℕ → List LentLine → Type 0
UpTo lines until rest = rest ≡ take (length rest) (drop (until - length rest) lines)

-- what is left of it reaches up to there
up_to-drop : (lines : List LentLine) (until n : ℕ) (rest : List LentLine) → length rest ≤ until → n ≤ length rest → UpTo lines until rest
    → UpTo lines until (drop n rest)
up_to-drop lines until n rest short within is =
    let size : length (drop n rest) ≡ length rest - n = length-drop n rest in
    let whole : length rest ≡ n + (length rest - n) = omega (arith, within) in
    let place : until - length rest + n ≡ until - length (drop n rest) = omega (arith, size, within, short) in
    ap (drop n) (is ∙ ap (λ k. take k (drop (until - length rest) lines)) whole)
    ∙ drop-take n (length rest - n) (drop (until - length rest) lines)
    ∙ ap₂ take (sym size) (drop-drop n (until - length rest) lines ∙ ap (λ k. drop k lines) place)

-- so do the lines behind the first one
pub up_to-behind : (lines : List LentLine) (until : ℕ) (rest : List LentLine) → length rest ≤ until → UpTo lines until rest
    → UpTo lines until (behind_first rest)
up_to-behind lines until [] short is = refl
up_to-behind lines until (m ∷ rest) short is =
    let n = min m.below (length rest) in
    let same : drop n rest ≡ drop m.below rest = drop_min m.below rest in
    subst (UpTo lines until) same (up_to-drop lines until (suc n) (m ∷ rest) short (omega arith) is)

module _ (kind : List ℕ) (priority : ℕ) where
  -- the lines of indent 0 of a section of these lines
  abbrev pub lent_tops : List LentLine → List PlainTop
  lent_tops lines = tops_of (record { priority = priority; kind = kind; lines = lent_forest lines })

  -- of no lines there are none
  pub lent_tops-none : (lines : List LentLine) → length lines ≡ 0 → lent_tops lines ≡ []
  lent_tops-none [] none =
      ap (λ (f : Forest). map (λ m. record { kind = kind; priority = priority; line = m }) (lines_of f)) lent_forest-none
  lent_tops-none (m ∷ lines) none = absurd (omega arith)

  -- the first, and those behind it
  lent_tops-first : (lines : List LentLine) → 0 < length lines →
      lent_tops lines ≡ record { kind = kind; priority = priority; line = first_of lines } ∷ lent_tops (behind_first lines)
  lent_tops-first [] some = absurd (omega arith)
  lent_tops-first (m ∷ lines) some =
      ap (λ (f : Forest). map (λ m. record { kind = kind; priority = priority; line = m }) (lines_of f)) (lent_forest-line m lines)

  -- one more of them is put after others
  pub lent_tops-pushed : (lines rest : List LentLine) (until : ℕ) (tops new : List (TopLine LentTop)) (top : TopLine LentTop)
      (all : List PlainTop) → 0 < length rest → UpTo lines until rest → new ≡ tops ++ top ∷ []
      → plain_top (lent_top lines) top
      ≡ record { kind = kind; priority = priority; line = first_of (take (length rest) (drop (until - length rest) lines)) }
      → plain_tops (lent_top lines) tops ++ lent_tops rest ≡ all
      → plain_tops (lent_top lines) new ++ lent_tops (behind_first rest) ≡ all
  lent_tops-pushed lines rest until tops new top all some is pushed top_is so_far =
      let plain = lent_top lines in
      let here : plain_top plain top ≡ record { kind = kind; priority = priority; line = first_of rest } =
      top_is ∙ ap (λ (ms : List LentLine). record { kind = kind; priority = priority; line = first_of ms }) (sym is) in
      ap (λ ts. plain_tops plain ts ++ lent_tops (behind_first rest)) pushed
      ∙ ap (λ ts. ts ++ lent_tops (behind_first rest)) (map_push (plain_top plain) tops top)
      ∙ append_assoc (plain_tops plain tops) (plain_top plain top ∷ []) (lent_tops (behind_first rest))
      ∙ ap (λ t. plain_tops plain tops ++ t ∷ lent_tops (behind_first rest)) here
      ∙ ap (λ ts. plain_tops plain tops ++ ts) (sym (lent_tops-first rest some))
      ∙ so_far

-- those of one more section are put after others
pub tops_more : (sections : List LentSection) (lines : List LentLine) (i from size room : ℕ) (d : LentSection) (tops new all : List PlainTop) →
    i < length sections → size ≡ min (get_or sections i d).lines room → room ≡ length lines - from
    → new ≡ tops ++ lent_tops (get_or sections i d).kind.now (get_or sections i d).priority (take (from + size - from) (drop from lines))
    → tops ++ top_lines (sections_over (drop i sections) (drop from lines)) ≡ all
    → new ++ top_lines (sections_over (drop (i + 1) sections) (drop (from + size) lines)) ≡ all
tops_more sections lines i from size room d tops new all within is left pushed so_far =
    let s = get_or sections i d in
    let part = take (from + size - from) (drop from lines) in
    let rest = sections_over (drop (i + 1) sections) (drop (from + size) lines) in
    let first : PlainSection = record { priority = s.priority; kind = s.kind.now; lines = lent_forest part } in
    ap (λ ts. ts ++ top_lines rest) pushed
    ∙ append_assoc tops (tops_of first) (top_lines rest)
    ∙ ap (λ ts. tops ++ ts) (sym (flat_map-cons tops_of first rest)
    ∙ ap top_lines (sym (sections_over-from sections lines i from size room d within is left)))
    ∙ so_far
