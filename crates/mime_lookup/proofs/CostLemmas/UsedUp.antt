-- Which faults say that a lookup used up what it may take of a cache, and what is left then.
use Rattle.std.proofs.Common.{◌≡◌, ◌∙◌, ◌⊎◌, ℕ, ◌+◌, ◌*◌, ◌/◌, ◌<◌, ◌≤◌, false, List, ◌∷◌, length, inl, inr, sym, arith}
use Rattle.std.proofs.lemmas.List.Elements.{All-cons}
use Rattle.std.proofs.lemmas.List.Sums.{sum_by-cons}
use Rattle.mime_base.specs.Cache.Bytes.{field}
use Rattle.mime_base.specs.Matching.Folding.{compared}
use Rattle.mime_base.specs.declared.magic.host.Host.{Host}
use Rattle.mime_lookup.specs.Costs.{Costs}
use Rattle.mime_lookup.specs.Spent.{IsUsedUp, UsesUp}
use Rattle.mime_lookup.specs.StepFaults.{IsAliasFault, IsGlobsFault, IsSearchFault, IsSniffFault}
use Rattle.mime_lookup.proofs.StopLemmas.PlacedFaults.{no_alias, no_keys, no_list, no_memory, no_named, no_place, no_text, no_tree}
use Rattle.mime_view.specs.Asked.{AsksLines}
use Rattle.mime_view.specs.Magic.{IsMagicLine, IsOwnFault, IsSectionFault}
use Rattle.mime_view.specs.Parents.{IsParentsFault, IsTextsFault, parents_at}
use Rattle.mime_view.specs.declared.budget.Budget.{Budget}
use Rattle.mime_view.specs.declared.fault.CacheFault.{CacheFault}
use Rattle.mime_view.specs.declared.fault.CacheFault.TheVariants.{Spent, TooDeep}
use Rattle.mime_view.specs.declared.spending.Spending.{Spending}

-- the search for the types of a name does only where no record is left
pub globs_spent : (c name : List ℕ) (left : Budget) (e : CacheFault) → IsGlobsFault c name left e → e ≡ Spent → left.records ≡ 0
globs_spent c name left e (inl (inl (inl list))) same = absurd (no_list c (field c 0 3) e list same)
globs_spent c name left e (inl (inl (inr (inl (inl tree))))) same = absurd (no_tree c (field c 0 4) name e tree same)
globs_spent c name left e (inl (inl (inr (inl (inr tree))))) same = absurd (no_tree c (field c 0 4) (compared false name) e tree same)
globs_spent c name left e (inl (inl (inr (inr list)))) same = absurd (no_list c (field c 0 5) e list same)
globs_spent c name left e (inl (inr (inl kind))) same = absurd (no_text c kind.place e kind.no_text same)
globs_spent c name left e (inl (inr (inr (inl spent)))) same = spent.1
globs_spent c name left e (inl (inr (inr (inr memory)))) same = absurd (no_memory e memory same)
globs_spent c name left e (inr alias) same = absurd (no_alias c e alias same)

-- and so does the search for a subclass
texts_spent : (c : List ℕ) (at before after : ℕ) (e : CacheFault) → IsTextsFault c at before after e → e ≡ Spent → after ≡ 0
texts_spent c at before after e (inl list) same = absurd (no_place at (sym list.is ∙ same))
texts_spent c at before after e (inr (inl named)) same = absurd (no_named c _ _ _ _ e named same)
texts_spent c at before after e (inr (inr (inl spent))) same = spent.none_left
texts_spent c at before after e (inr (inr (inr memory))) same = absurd (no_memory e memory same)

-- where parents are spent, no record is left
parents_spent : (c : List ℕ) (at : ℕ) (marks kind : List ℕ) (before after : ℕ) (e : CacheFault)
    → IsParentsFault c at marks kind before after e → e ≡ Spent → after ≡ 0
parents_spent c at marks kind before after e (inl keys) same = absurd (no_keys c at e keys same)
parents_spent c at marks kind before after e (inr entry) same =
    texts_spent c (parents_at c at entry.place) before after e entry.fault same

-- where a choice among types is spent, no record is left
pub choice_spent : (c : List ℕ) (left : Budget) (e : CacheFault) → IsAliasFault c e ⊎ IsSearchFault c left e → e ≡ Spent
    → left.records ≡ 0
choice_spent c left e (inl alias) same = absurd (no_alias c e alias same)
choice_spent c left e (inr (inl some)) same =
    parents_spent c (field c 0 2) some.marks some.kind some.before left.records e some.fault same
choice_spent c left e (inr (inr (inl alias))) same = absurd (no_alias c e alias same)
choice_spent c left e (inr (inr (inr memory))) same = absurd (no_memory e memory same)

-- magic does where no record is left, or fewer value bytes than a line states, besides those of the lines that were asked
module _ (c front : List ℕ) (host : Host) (old left : Budget) (NoContent : Type 0) (content : NoContent → ⊥)
    (asked : AsksLines c (IsMagicLine c (field c 0 6)) old left)
  where
    -- a line that is spent has used up the budget
    line_spent : (r level : ℕ) (e : CacheFault) → IsMagicLine c (field c 0 6) r → IsOwnFault c r level front host left e → e ≡ Spent
        → IsUsedUp c NoContent old left
    line_spent r level e of_magic (inl (inl value)) same = absurd (no_place _ (sym value.is ∙ same))
    line_spent r level e of_magic (inl (inr (is, inl records))) same = inl records
    line_spent r level e of_magic (inl (inr (is, inr value))) same =
        let sum = sum_by-cons (λ (line : ℕ). field c line 3) r asked.lines in
        inr (
          content,
          record {
            lines = r ∷ asked.lines;
            each = All-cons (IsMagicLine c (field c 0 6)) r asked.lines of_magic asked.each;
            few = omega (arith, asked.few);
            over = omega (arith, asked.taken, value, sum);
          },
        )
    line_spent r level e of_magic (inr (inl block)) same = absurd (no_place _ (sym block.is ∙ same))
    line_spent r level e of_magic (inr (inr deep)) same =
        let both : TooDeep ≡ Spent = sym deep.is ∙ same in
        absurd cc

    -- so has a section of magic
    section_spent : (i : ℕ) (e : CacheFault) → i < field c (field c 0 6) 0
        → IsSectionFault c (field c (field c 0 6) 2 + 16 * i) front host left e → e ≡ Spent → IsUsedUp c NoContent old left
    section_spent i e within (inl block) same = absurd (no_place _ (sym block.is ∙ same))
    section_spent i e within (inr (inl spent)) same = inl spent.1
    section_spent i e within (inr (inr (inl (top, one, line)))) same =
        line_spent line.r (0 + line.steps) e
        (record {
          section = i;
          within = within;
          top = top;
          below = one;
          steps = line.steps;
          few = omega (arith, line.within);
          leads = line.leads;
        })
        line.fault same
    section_spent i e within (inr (inr (inr text))) same = absurd (no_text c _ e text same)

    -- and so has a sniffed type
    pub sniff_fault_spent : (e : CacheFault) → IsSniffFault c front host left e → e ≡ Spent → IsUsedUp c NoContent old left
    sniff_fault_spent e (inl head) same = absurd (no_place (field c 0 6) (sym head.1 ∙ same))
    sniff_fault_spent e (inr (inl block)) same = absurd (no_place _ (sym block.is ∙ same))
    sniff_fault_spent e (inr (inr (i, within, section))) same = section_spent i e within section same

-- what was left of a cache's own budget, after the header and all steps
pub uses_up : (c : List ℕ) {NoContent : Type 0} {each value more : ℕ} {old left : Spending} → length c ≤ 268435456
    → old.budget.records ≡ length c / 4 → old.budget.value_bytes ≡ length c → 1 ≤ old.meter.nodes → Costs each value more old left
    → IsUsedUp c NoContent old.budget left.budget → UsesUp c NoContent left.meter.nodes
uses_up c limit records value_bytes one cost (inl none) = inl (omega (arith, cost.fair, one, records, limit, none))
uses_up c limit records value_bytes one cost (inr value) =
    let states = value.1 in
    inr (
      value.0,
      record {
        lines = states.lines;
        each = states.each;
        few = omega (arith, cost.fair, cost.records, one, records, limit, states.few);
        over = omega (arith, states.over, value_bytes);
      },
    )
