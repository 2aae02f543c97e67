-- Lines have one owner each, as they are named by tables or listed with the others, the last first.
use Rattle.std.proofs.Common.{◌≡◌, ℕ, ◌+◌, ◌*◌, ◌<◌, ◌≤◌, inl, inr, cond, List, [], ◌∷◌, ◌++◌, length, get_or, refl, sym, ap, ◌∙◌, arith}
use Rattle.std.proofs.Common.{eq-eqb, length-append}
use Rattle.std.proofs.Math.Dec.{eqb}
use Rattle.std.proofs.Math.ListN.{get_or-append, set}
use Rattle.std.proofs.lemmas.Bool.{cases_eq, cases_lt, cond-false, cond-true, ne_eqb}
use Rattle.std.proofs.lemmas.List.{get_or-set_other, get_or-set_same, get_or_push}
use Rattle.mime_lookup.specs.Tables.{OwnsLines, OwnsOthers}
use Rattle.mime_lookup.specs.declared.indexed.tables.Tables.{Tables}

module _ (owner : ℕ → ℕ) (first this : ℕ) where
  -- with an owner for one line more
  abbrev pub owner_with : ℕ → ℕ
  owner_with line = cond (eqb line first) this (owner line)

  -- that line
  with_same : owner_with first ≡ this
  with_same = cond-true (eqb first first) this (owner first) (eq-eqb first first refl)

  -- a line after it
  with_other : (line : ℕ) → first < line → owner_with line ≡ owner line
  with_other line after = cond-false (eqb line first) this (owner line) (ne_eqb line first (λ same. omega (arith, same, after)))

module _ (old new : Tables) (owner : ℕ → ℕ) (lines first : ℕ) (owns : OwnsLines old owner lines (first + 1))
    (places : new.places.items ≡ old.places.items) where
  module _ (table byte slot : ℕ) (small : byte < 256) (slot_is : slot ≡ table * 256 + byte) (bound : slot < length old.firsts.items)
      (inside : first < length old.nexts.items) (nexts : new.nexts.items ≡ set old.nexts.items first (get_or old.firsts.items slot 0))
      (firsts : new.firsts.items ≡ set old.firsts.items slot (first + 1)) where
    -- the owner of each line, with the new one's
    abbrev linked : ℕ → ℕ
    linked = owner_with owner first table

    -- a slot that is named, the new line's or another
    slot_named : (t b line : ℕ) → b < 256 → get_or new.firsts.items (t * 256 + b) 0 ≡ line + 1 → (first ≤ line) × (linked line ≡ t)
    slot_named t b line below is = elim (cases_eq (t * 256 + b) slot) [
      | inl same ↦ (
          let named : get_or new.firsts.items (t * 256 + b) 0 ≡ first + 1 =
          ap (λ (xs : List ℕ). get_or xs (t * 256 + b) 0) firsts ∙ ap (λ n. get_or (set old.firsts.items slot (first + 1)) n 0) same
          ∙ get_or-set_same old.firsts.items slot (first + 1) 0 bound in
          let here : line ≡ first = omega (arith, is, named) in
          let owned : table ≡ t = omega (arith, same, slot_is, small, below) in
          (omega (arith, here), ap linked here ∙ with_same owner first table ∙ owned))
      | inr other ↦ (
          let link : get_or new.firsts.items (t * 256 + b) 0 ≡ get_or old.firsts.items (t * 256 + b) 0 =
          ap (λ (xs : List ℕ). get_or xs (t * 256 + b) 0) firsts ∙ get_or-set_other old.firsts.items slot (t * 256 + b) (first + 1) 0 other in
          let before = owns.named t b line below (sym link ∙ is) in
          (omega (arith, before.0), with_other owner first table line (omega (arith, before.0)) ∙ before.1))
    ]

    -- a line that is named by one, the new one or another
    line_named : (line after : ℕ) → first ≤ line → linked line < length new.places.items → get_or new.nexts.items line 0 ≡ after + 1
        → (first ≤ after) × (linked after ≡ linked line)
    line_named line after low owned is = elim (cases_eq line first) [
      | inl same ↦ (
          let link : get_or new.nexts.items line 0 ≡ get_or old.firsts.items slot 0 =
          ap (λ (xs : List ℕ). get_or xs line 0) nexts ∙ ap (λ n. get_or (set old.nexts.items first (get_or old.firsts.items slot 0)) n 0) same
          ∙ get_or-set_same old.nexts.items first (get_or old.firsts.items slot 0) 0 inside in
          let named = ap (λ n. get_or old.firsts.items n 0) slot_is in
          let before = owns.named table byte after small (sym named ∙ sym link ∙ is) in (
            omega (arith, before.0),
            with_other owner first table after (omega (arith, before.0)) ∙ before.1 ∙ sym (with_same owner first table)
                ∙ sym (ap linked same),
          ))
      | inr other ↦ (
          let link : get_or new.nexts.items line 0 ≡ get_or old.nexts.items line 0 =
          ap (λ (xs : List ℕ). get_or xs line 0) nexts
          ∙ get_or-set_other old.nexts.items first line (get_or old.firsts.items slot 0) 0 other in
          let same = with_other owner first table line (omega (arith, low, other)) in
          let before = owns.next line after (omega (arith, low, other)) (omega (arith, owned, same, ap length places)) (sym link ∙ is) in (
            omega (arith, before.0),
            with_other owner first table after (omega (arith, before.0)) ∙ before.1 ∙ sym same,
          ))
    ]

    -- with a line more that a table names
    pub owns-linked : new.others.items ≡ old.others.items → OwnsLines new linked lines first
    owns-linked others = record {
      few = omega (arith, owns.few, ap length places);
      named = slot_named;
      next = line_named;
      others = rw (others, places) (record {
        own = λ i within. with_other owner first table (get_or old.others.items i 0) (omega (arith, owns.late i within)) ∙ owns.others.own i within;
        inside = owns.others.inside;
        falls = owns.others.falls;
      });
      late = rw others (λ i within. omega (arith, owns.late i within));
    }

  module _ (nexts : new.nexts.items ≡ old.nexts.items) (firsts : new.firsts.items ≡ old.firsts.items)
      (others : new.others.items ≡ old.others.items ++ first ∷ []) (inside : first < lines) where
    -- the owner of each line, with the new one's
    abbrev apart : ℕ → ℕ
    apart = owner_with owner first (length old.places.items)

    -- the others before it
    before_it : (i : ℕ) → i < length old.others.items → get_or (old.others.items ++ first ∷ []) i 0 ≡ get_or old.others.items i 0
    before_it i within = get_or-append old.others.items (first ∷ []) 0 i within

    -- and it
    here_it : (i : ℕ) → length old.others.items ≡ i → get_or (old.others.items ++ first ∷ []) i 0 ≡ first
    here_it i last = get_or_push old.others.items first 0 i last

    -- the others with the new line
    others_more : OwnsOthers (old.others.items ++ first ∷ []) apart (length old.places.items) lines
    others_more = record {
      own = λ i within. elim (cases_lt i (length old.others.items)) [
        | inl less ↦
            ap apart (before_it i less)
            ∙ with_other owner first (length old.places.items) (get_or old.others.items i 0) (omega (arith, owns.late i less))
            ∙ owns.others.own i less
        | inr past ↦
            ap apart (here_it i (omega (arith, past, within, length-append old.others.items (first ∷ []))))
            ∙ with_same owner first (length old.places.items)
      ];
      inside = λ i within. elim (cases_lt i (length old.others.items)) [
        | inl less ↦ omega (arith, before_it i less, owns.others.inside i less)
        | inr past ↦ omega (arith, inside, here_it i (omega (arith, past, within, length-append old.others.items (first ∷ []))))
      ];
      falls = λ i within. elim (cases_lt (i + 1) (length old.others.items)) [
        | inl less ↦ omega (arith, before_it i (omega (arith, less)), before_it (i + 1) less, owns.others.falls i less)
        | inr past ↦ (
            let last : length old.others.items ≡ i + 1 = omega (arith, past, within, length-append old.others.items (first ∷ [])) in
            omega (arith, before_it i (omega (arith, last)), here_it (i + 1) last, owns.late i (omega (arith, last))))
      ];
    }

    -- with a line more that is asked by itself
    pub owns-apart : OwnsLines new apart lines first
    owns-apart = record {
      few = omega (arith, owns.few, ap length places);
      named = λ t b line below is.
          let before = owns.named t b line below (sym (ap (λ (xs : List ℕ). get_or xs (t * 256 + b) 0) firsts) ∙ is) in
          (omega (arith, before.0), with_other owner first (length old.places.items) line (omega (arith, before.0)) ∙ before.1);
      next = λ line after low owned is. elim (cases_eq line first) [
        | inl same ↦
            absurd (omega (arith, owned, ap apart same, with_same owner first (length old.places.items), ap length places))
        | inr other ↦ (
            let link = sym (ap (λ (xs : List ℕ). get_or xs line 0) nexts) ∙ is in
            let same = with_other owner first (length old.places.items) line (omega (arith, low, other)) in
            let before = owns.next line after (omega (arith, low, other)) (omega (arith, owned, same, ap length places)) link in (
              omega (arith, before.0),
              with_other owner first (length old.places.items) after (omega (arith, before.0)) ∙ before.1 ∙ sym same,
            ))
      ];
      others = rw (others, places) others_more;
      late = rw others (λ i within. elim (cases_lt i (length old.others.items)) [
        | inl less ↦ omega (arith, before_it i less, owns.late i less)
        | inr past ↦ omega (arith, here_it i (omega (arith, past, within, length-append old.others.items (first ∷ []))))
      ]);
    }
