-- The types of a parent list that stands, and those that were read of them.
use Rattle.std.proofs.Common.{◌≡◌, ℕ, ◌+◌, ◌-◌, ◌*◌, ◌<◌, ◌≤◌, true, false, List, [], length, map, get_or, refl, ap, sym, subst, ◌∙◌, arith, true≢false}
use Rattle.std.proofs.lemmas.Bool.{true_from_ne_false}
use Rattle.std.proofs.lemmas.Slice.Eq.{bytes_eq-Decides}
use Rattle.mime_base.specs.Cache.Bytes.{Stands}
use Rattle.mime_base.specs.Database.Subclass.{parents}
use Rattle.mime_base.specs.Format.Parents.{IsSubclass, ParentsAt}
use Rattle.mime_base.specs.Format.Runs.{IsRun, PlainRun, second_text}
use Rattle.mime_base.specs.Format.Sorted.{text_lt}
use Rattle.mime_base.proofs.FormatLemmas.Subclasses.{kinds_have_parents, kinds_once}
use Rattle.mime_base.proofs.FormatLemmas.TextOrder.{neither_less}
use Rattle.mime_load.specs.ParentLists.{Entries, EntryStands, IsParentEntry}
use Rattle.mime_load.proofs.ParentSums.{parent_count, parents_sum}
use Rattle.mime_load.proofs.RecordLemmas.{record_at}
use Rattle.mime_load.proofs.ParentCounts.{next_count}
use Rattle.mime_load.proofs.ParentsRead.{run_entry, same_entry, subclass_entry}

-- pairs of texts
abbrev Pairs : Type 0
Pairs = List (List ℕ × List ℕ)

module _ (c : List ℕ) (at : ℕ) (pairs : Pairs) (list : ParentsAt (Stands c) at pairs) where
  -- the entry of a type at a place
  pub kind_there : (i there : ℕ) → i < length list.kinds → at + 4 + 8 * i ≡ there
      → EntryStands c there (get_or list.kinds i []) (parents pairs (get_or list.kinds i []))
  kind_there i there within place =
      subclass_entry c there pairs (get_or list.kinds i [])
      (record_at (Stands c) 8 (IsSubclass (Stands c) pairs) (at + 4) i there list.kinds [] within place list.stand.records)

  -- it has a parent
  pub kind_parents : (i : ℕ) → i < length list.kinds → 0 < length (parents pairs (get_or list.kinds i []))
  kind_parents i within = kinds_have_parents pairs list.kinds list.permuted i within

  -- types rise
  kinds_rise : (i : ℕ) → i + 1 < length list.kinds → text_lt (get_or list.kinds i []) (get_or list.kinds (i + 1) []) ≡ true
  kinds_rise i within =
      true_from_ne_false (text_lt (get_or list.kinds i []) (get_or list.kinds (i + 1) [])) (λ no.
      let back : text_lt (get_or list.kinds (i + 1) []) (get_or list.kinds i []) ≡ false =
      list.in_order i [] (omega arith) (omega (arith, within)) in
      let same : get_or list.kinds i [] ≡ get_or list.kinds (i + 1) [] =
      (bytes_eq-Decides (get_or list.kinds i []) (get_or list.kinds (i + 1) [])).0
      (neither_less (get_or list.kinds i []) (get_or list.kinds (i + 1) []) no back) in
      absurd (omega (arith, kinds_once pairs list.kinds list.permuted i (i + 1) (omega (arith, within)) within same)))

  module _ (i : ℕ) (previous : List ℕ) (read : Pairs) (e : Entries c (at + 4) i previous read) (within : i < length list.kinds) where
    -- there is room for the parents of the next type
    pub next_parents : length read + length (parents pairs (get_or list.kinds i [])) ≤ length pairs
    next_parents =
        let next = next_count c pairs (at + 4) e.runs list.kinds e.stand list.stand.records (omega (arith, e.size, within)) in
        let place : parent_count pairs (get_or list.kinds (length e.runs) []) ≡ parent_count pairs (get_or list.kinds i []) =
        ap (λ (k : ℕ). parent_count pairs (get_or list.kinds k [])) e.size in
        omega (arith, next, place, ap (λ (ps : Pairs). length ps) e.flat, parents_sum pairs list.kinds list.permuted)

    -- the previous type is the one before the next
    previous_kind : 0 < i → previous ≡ get_or list.kinds (i - 1) []
    previous_kind some =
        let d : PlainRun = ([], []) in
        let there : ℕ = at + 4 + 8 * (i - 1) in
        let run = record_at (Stands c) 8 (IsRun (Stands c)) (at + 4) (i - 1) there e.runs d (omega (arith, e.size, some)) refl e.stand in
        let entry = kind_there (i - 1) there (omega (arith, within)) refl in
        let last : (get_or e.runs (i - 1) d).0 ≡ previous =
        ap (λ (k : ℕ). (get_or e.runs (k - 1) d).0) (sym e.size) ∙ e.previous_is d (omega (arith, e.size, some)) in
        sym last
        ∙ (same_entry c there (get_or e.runs (i - 1) d).0 (get_or list.kinds (i - 1) []) (map second_text (get_or e.runs (i - 1) d).1)
        (parents pairs (get_or list.kinds (i - 1) [])) (run_entry c there (get_or e.runs (i - 1) d) run) entry).kinds

    -- a type that was read next is after it
    pub next_rises : (kind : List ℕ) (after : Pairs) → IsParentEntry c (at + 4 + 8 * i) kind read after → 0 < i
        → text_lt previous kind ≡ false → ⊥
    next_rises kind after one some falls =
        let there : ℕ = at + 4 + 8 * i in
        let entry : EntryStands c there kind (map second_text one.adds.added) =
        record { kind_at = one.kind_at; list = one.list; cards = one.cards; text = one.text; stand = one.adds.stand } in
        let is : kind ≡ get_or list.kinds i [] =
        (same_entry c there kind (get_or list.kinds i []) (map second_text one.adds.added) (parents pairs (get_or list.kinds i [])) entry
        (kind_there i there within refl)).kinds in
        let next : get_or list.kinds (i - 1 + 1) [] ≡ get_or list.kinds i [] = ap (λ (k : ℕ). get_or list.kinds k [])
        (omega (arith, some)) in
        let rises = kinds_rise (i - 1) (omega (arith, some, within)) in
        true≢false (sym (subst (λ (k : List ℕ). text_lt (get_or list.kinds (i - 1) []) k ≡ true) next rises)
        ∙ ap (λ (k : List ℕ). text_lt k (get_or list.kinds i [])) (sym (previous_kind some)) ∙ ap (text_lt previous) (sym is) ∙ falls)
