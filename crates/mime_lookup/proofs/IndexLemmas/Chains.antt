-- Lines of one place and byte, each of which names the next.
use Rattle.std.proofs.Common.{◌≡◌, ℕ, zero, suc, ◌+◌, ◌-◌, ◌*◌, ◌<◌, ◌≤◌, ◌⊎◌, inl, inr, List, [], ◌∷◌, ◌++◌, length, get_or, refl, sym, ap, ◌∙◌, arith}
use Rattle.std.proofs.Math.ListN.{set}
use Rattle.std.proofs.lemmas.Bool.{cases_eq}
use Rattle.std.proofs.lemmas.List.{get_or-set_other, get_or-set_same, length-set}
use Rattle.std.proofs.lemmas.List.Elements.{Contains-append_left, Contains-push}
use Rattle.mime_lookup.specs.Tables.{AreTables, IsInTable, IsSlot, LeadsChain}
use Rattle.mime_lookup.specs.declared.indexed.line_head.LineHead.{LineHead}
use Rattle.mime_lookup.specs.declared.indexed.tables.Tables.{Tables}

-- a line that is led to is none before the one that leads to it
pub leads-onward : (steps : ℕ) (nexts : List ℕ) (low link line : ℕ) → LeadsChain steps nexts low link line → link ≤ line + 1
leads-onward zero nexts low link line leads = absurd leads
leads-onward (suc steps) nexts low link line leads = elim leads.1 [
  | inl is ↦ omega (arith, is)
  | inr rest ↦ omega (arith, leads-after steps nexts link (get_or nexts (link - 1) 0) line rest)
]
  where
    leads-after : (steps : ℕ) (nexts : List ℕ) (low link line : ℕ) → LeadsChain steps nexts low link line → low < line + 1
    leads-after zero nexts low link line leads = absurd leads
    leads-after (suc steps) nexts low link line leads = elim leads.1 [
      | inl is ↦ omega (arith, is, leads.0)
      | inr rest ↦ omega (arith, leads.0, leads-after steps nexts link (get_or nexts (link - 1) 0) line rest)
    ]

-- a line that leads to another is it, or names one that does
pub leads-next : (steps : ℕ) (nexts : List ℕ) (low link line : ℕ) → LeadsChain steps nexts low link line →
    (link ≡ line + 1) ⊎ ((more : ℕ) × LeadsChain more nexts link (get_or nexts (link - 1) 0) line)
leads-next zero nexts low link line leads = absurd leads
leads-next (suc steps) nexts low link line leads = elim leads.1 [
  | inl is ↦ inl is
  | inr rest ↦ inr (steps, rest)
]

-- one that isn't after the one before it leads nowhere
pub none-leads : (steps : ℕ) (nexts : List ℕ) (low link line : ℕ) → link ≤ low → LeadsChain steps nexts low link line → ⊥
none-leads zero nexts low link line not leads = leads
none-leads (suc steps) nexts low link line not leads = omega (arith, not, leads.0)

-- a line before all others comes to those that name one
kept : (steps : ℕ) (nexts : List ℕ) (first named low link line : ℕ) → first < low → LeadsChain steps nexts low link line →
    LeadsChain steps (set nexts first named) low link line
kept zero nexts first named low link line before leads = absurd leads
kept (suc steps) nexts first named low link line before leads = (
  leads.0,
  elim leads.1 [
    | inl is ↦ inl is
    | inr rest ↦ (
        let same : get_or (set nexts first named) (link - 1) 0 ≡ get_or nexts (link - 1) 0 =
        get_or-set_other nexts first (link - 1) named 0 (omega (arith, leads.0, before)) in
        inr (rw same (kept steps nexts first named link (get_or nexts (link - 1) 0) line (omega (arith, leads.0, before)) rest)))
  ],
)

-- from a lower one on
lower : (steps : ℕ) (nexts : List ℕ) (low from link line : ℕ) → from ≤ low → LeadsChain steps nexts low link line → LeadsChain steps nexts from link line
lower zero nexts low from link line less leads = absurd leads
lower (suc steps) nexts low from link line less leads = (omega (arith, less, leads.0), leads.1)

-- tables with a line more, before all others
module _ (old new : Tables) (heads : List LineHead) (first : ℕ) (are : AreTables old heads (first + 1))
    (places : new.places.items ≡ old.places.items) where
  module _ (slot : ℕ) (bound : slot < length old.firsts.items) (inside : first < length old.nexts.items)
      (nexts : new.nexts.items ≡ set old.nexts.items first (get_or old.firsts.items slot 0))
      (firsts : new.firsts.items ≡ set old.firsts.items slot (first + 1)) where
    -- the slot names the new line
    named : (other : ℕ) → other ≡ slot → get_or new.firsts.items other 0 ≡ first + 1
    named other same =
        ap (λ (xs : List ℕ). get_or xs other 0) firsts ∙ ap (λ n. get_or (set old.firsts.items slot (first + 1)) n 0) same
        ∙ get_or-set_same old.firsts.items slot (first + 1) 0 bound

    -- that names the one that the slot named
    next : get_or new.nexts.items (first + 1 - 1) 0 ≡ get_or old.firsts.items slot 0
    next =
        let at : first + 1 - 1 ≡ first = omega arith in
        ap (λ n. get_or new.nexts.items n 0) at ∙ ap (λ (xs : List ℕ). get_or xs first 0) nexts
        ∙ get_or-set_same old.nexts.items first (get_or old.firsts.items slot 0) 0 inside

    -- lines after it lead on
    still : (steps link line : ℕ) → LeadsChain steps old.nexts.items (first + 1) link line → LeadsChain steps new.nexts.items (first + 1) link line
    still steps link line leads = rw nexts (kept steps old.nexts.items first (get_or old.firsts.items slot 0) (first + 1) link line (omega arith) leads)

    -- a line that was found stays found, through the new one where that is of its slot
    stays_found : (line : ℕ) (head : LineHead) → IsInTable old (first + 1) line head → IsInTable new first line head
    stays_found line head found = elim (cases_eq found.slot slot) [
      | inl same ↦ (
          let link : get_or old.firsts.items found.slot 0 ≡ get_or old.firsts.items slot 0 = ap (λ n. get_or old.firsts.items n 0) same in
          record {
            slot = found.slot;
            is = rw places found.is;
            steps = suc found.steps;
            leads = rw (named found.slot same) (omega arith, inr (rw next (rw link at (still found.steps _ line found.leads))));
          })
      | inr other ↦ (
          let link : get_or new.firsts.items found.slot 0 ≡ get_or old.firsts.items found.slot 0 =
          ap (λ (xs : List ℕ). get_or xs found.slot 0) firsts ∙ get_or-set_other old.firsts.items slot found.slot (first + 1) 0 other in
          record {
            slot = found.slot;
            is = rw places found.is;
            steps = found.steps;
            leads = rw link (lower found.steps new.nexts.items (first + 1) first _ line (omega arith) (still found.steps _ line found.leads));
          })
    ]

    -- the new line is found
    is_found : (head : LineHead) → IsSlot old.places.items slot head → IsInTable new first first head
    is_found head is = record {
      slot = slot;
      is = rw places is;
      steps = 1;
      leads = rw (named slot refl) (omega arith, inl refl);
    }

    -- so are all from it on
    pub tables_linked : new.others.items ≡ old.others.items →
        ((head : LineHead) → head ≡ get_or heads first head → IsSlot old.places.items slot head) → AreTables new heads first
    tables_linked others is = record {
      size = ap length nexts ∙ length-set old.nexts.items first _ ∙ are.size;
      slots = ap length firsts ∙ length-set old.firsts.items slot _ ∙ are.slots ∙ ap (λ (xs : List ℕ). length xs * 256) (sym places);
      each = λ line head low within head_is. elim (cases_eq line first) [
        | inl same ↦ inr (rw same (is_found head (is head (rw same at head_is))))
        | inr other ↦ elim (are.each line head (omega (arith, low, other)) within head_is) [
          | inl apart ↦ inl (rw others apart)
          | inr found ↦ inr (stays_found line head found)
        ]
      ];
    }

  -- a line more that is asked by itself
  pub tables_apart : new.nexts.items ≡ old.nexts.items → new.firsts.items ≡ old.firsts.items →
      new.others.items ≡ old.others.items ++ first ∷ [] → AreTables new heads first
  tables_apart nexts firsts others = record {
    size = ap length nexts ∙ are.size;
    slots = ap length firsts ∙ are.slots ∙ ap (λ (xs : List ℕ). length xs * 256) (sym places);
    each = λ line head low within head_is. elim (cases_eq line first) [
      | inl same ↦ inl (rw (others, same) (Contains-push old.others.items first))
      | inr other ↦ elim (are.each line head (omega (arith, low, other)) within head_is) [
        | inl apart ↦ inl (rw others (Contains-append_left old.others.items (first ∷ []) line apart))
        | inr found ↦ inr (record {
          slot = found.slot;
          is = rw places found.is;
          steps = found.steps;
          leads = rw (nexts, firsts) (lower found.steps old.nexts.items (first + 1) first _ line (omega arith) found.leads);
        })
      ]
    ];
  }
