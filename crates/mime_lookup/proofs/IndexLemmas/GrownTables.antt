-- Tables with one more, which names no line, name the same lines.
use Rattle.std.proofs.Common.{◌≡◌, ℕ, ◌+◌, ◌*◌, ◌<◌, ◌≤◌, inl, inr, cond, List, length, get_or, sym, ap, ◌∙◌, arith}
use Rattle.std.proofs.Common.{eq-eqb}
use Rattle.std.proofs.Math.Dec.{eqb}
use Rattle.std.proofs.lemmas.Bool.{cases_eq, cases_lt, cond-false, cond-true, ne_eqb}
use Rattle.std.proofs.lemmas.List.{get_or_past}
use Rattle.mime_lookup.specs.Tables.{AreTables, GrowTables, IsInTable, OwnsLines}
use Rattle.mime_lookup.specs.declared.indexed.line_head.LineHead.{LineHead}
use Rattle.mime_lookup.specs.declared.indexed.tables.Tables.{Tables}

module _ (owner : ℕ → ℕ) (before after : ℕ) where
  -- the owner of each line, where that of the others has the new number of all tables
  abbrev pub renamed : ℕ → ℕ
  renamed line = cond (eqb (owner line) before) after (owner line)

  -- that of a line of a table
  of_table : (line : ℕ) → (owner line ≡ before → ⊥) → renamed line ≡ owner line
  of_table line other = cond-false (eqb (owner line) before) after (owner line) (ne_eqb (owner line) before other)

  -- that of the others
  of_others : (line : ℕ) → owner line ≡ before → renamed line ≡ after
  of_others line is = cond-true (eqb (owner line) before) after (owner line) (eq-eqb (owner line) before is)

  -- a line that a table owns is of one of those before
  owned_before : after ≤ before + 1 → (line : ℕ) → renamed line < after → owner line < before
  owned_before one line owned = elim (cases_eq (owner line) before) [
    | inl same ↦ absurd (omega (arith, owned, of_others line same))
    | inr other ↦ omega (arith, owned, other, of_table line other, one)
  ]

-- a slot that names a line is one of these tables
has_table : (firsts : List ℕ) (tables table byte line : ℕ) → length firsts ≡ tables * 256 → byte < 256 →
    get_or firsts (table * 256 + byte) 0 ≡ line + 1 → table < tables
has_table firsts tables table byte line slots small is = elim (cases_lt (table * 256 + byte) (length firsts)) [
  | inl inside ↦ omega (arith, inside, slots)
  | inr past ↦ absurd (omega (arith, is, get_or_past firsts (table * 256 + byte) 0 (omega (arith, past))))
]

module _ (old new : Tables) (grow : GrowTables old new) where
  -- a line that is found stays found
  stays_found : (low line : ℕ) (head : LineHead) → IsInTable old low line head → IsInTable new low line head
  stays_found low line head found = record {
    slot = found.slot;
    is = record {
      one = found.is.one;
      known = found.is.known;
      table = found.is.table;
      inside = omega (arith, found.is.inside, grow.more);
      place = grow.places found.is.table found.is.inside ∙ found.is.place;
      byte = found.is.byte;
      slot_is = found.is.slot_is;
    };
    steps = found.steps;
    leads = rw (grow.firsts found.slot, grow.nexts) found.leads;
  }

  -- all lines are found as before
  pub tables-grown : (heads : List LineHead) (low : ℕ) → AreTables old heads low → AreTables new heads low
  tables-grown heads low are = record {
    size = ap length grow.nexts ∙ are.size;
    slots = grow.slots;
    each = λ line head from within is. elim (are.each line head from within is) [
      | inl apart ↦ inl (rw grow.others apart)
      | inr found ↦ inr (stays_found low line head found)
    ];
  }

  -- each line has its owner
  pub owns-grown : (owner : ℕ → ℕ) (lines low : ℕ) → length old.firsts.items ≡ length old.places.items * 256 →
      length new.places.items ≤ lines → OwnsLines old owner lines low →
      OwnsLines new (renamed owner (length old.places.items) (length new.places.items)) lines low
  owns-grown owner lines low slots few owns =
      let was = length old.places.items in
      let more = length new.places.items in
      record {
        few = few;
        named = λ table byte line small is.
            let link = sym (grow.firsts (table * 256 + byte)) ∙ is in
            let before = owns.named table byte line small link in
            let inside = has_table old.firsts.items was table byte line slots small link in
            (before.0, of_table owner was more line (λ same. omega (arith, same, before.1, inside)) ∙ before.1);
        next = λ line after from owned is.
            let inside = owned_before owner was more grow.one line owned in
            let before = owns.next line after from inside (sym (ap (λ (xs : List ℕ). get_or xs line 0) grow.nexts) ∙ is) in (
              before.0,
              of_table owner was more after (λ same. omega (arith, same, before.1, inside)) ∙ before.1
                  ∙ sym (of_table owner was more line (λ same. omega (arith, same, inside))),
            );
        others = rw grow.others (record {
          own = λ i within. of_others owner was more (get_or old.others.items i 0) (owns.others.own i within);
          inside = owns.others.inside;
          falls = owns.others.falls;
        });
        late = rw grow.others owns.late;
      }
