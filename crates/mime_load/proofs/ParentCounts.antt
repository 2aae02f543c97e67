-- Entries that stand at one offset have as many parents.
use Rattle.std.proofs.Common.{◌≡◌, ℕ, ◌+◌, ◌<◌, ◌≤◌, List, [], ◌∷◌, length, map, get_or, sum_by, refl, ap, sym, ◌∙◌, arith, length-append}
use Rattle.std.specs.List.{flat_map}
use Rattle.std.proofs.lemmas.List.{length-map}
use Rattle.std.proofs.lemmas.List.Sums.{sum_by-cons}
use Rattle.mime_base.specs.Cache.Bytes.{Stands}
use Rattle.mime_base.specs.Database.Subclass.{parents}
use Rattle.mime_base.specs.Format.Parents.{IsSubclass, ParentsAt}
use Rattle.mime_base.specs.Format.Records.{RecordsAt}
use Rattle.mime_base.specs.Format.Runs.{IsRun, PlainRun, second_text}
use Rattle.mime_load.specs.Parts.{RecordAt}
use Rattle.mime_load.proofs.ParentSums.{parent_count, parents_sum}
use Rattle.mime_load.proofs.SameLemmas.{same_numbers}
use Rattle.mime_load.proofs.ParentsRead.{run_entry, same_entry, subclass_entry}

-- pairs of texts
abbrev Pairs : Type 0
Pairs = List (List ℕ × List ℕ)

-- all pairs of runs
abbrev flat : List PlainRun → Pairs
flat runs = flat_map (λ (run : PlainRun). run.1) runs

module _ (c : List ℕ) (pairs : Pairs) where
  -- as many pairs are read of a type as it has parents
  one_count : (at : ℕ) (run : PlainRun) (kind : List ℕ) → RecordAt (Stands c) (IsRun (Stands c)) at run
      → RecordAt (Stands c) (IsSubclass (Stands c) pairs) at kind → length run.1 ≡ parent_count pairs kind
  one_count at run kind one two =
      sym (length-map run.1 second_text)
      ∙ (same_entry c at run.0 kind (map second_text run.1) (parents pairs kind) (run_entry c at run one)
      (subclass_entry c at pairs kind two)).counts

  -- those that were read, and those of the next type
  pub next_count : (at : ℕ) (runs : List PlainRun) (kinds : List (List ℕ)) → RecordsAt (Stands c) 8 (IsRun (Stands c)) at runs
      → RecordsAt (Stands c) 8 (IsSubclass (Stands c) pairs) at kinds → length runs < length kinds
      → length (flat runs) + parent_count pairs (get_or kinds (length runs) []) ≤ sum_by (parent_count pairs) kinds
  next_count at [] [] one two short = absurd (omega (arith, short))
  next_count at [] (kind ∷ kinds) one two short = omega (arith, sum_by-cons (parent_count pairs) kind kinds)
  next_count at (run ∷ runs) [] one two short = absurd (omega (arith, short))
  next_count at (run ∷ runs) (kind ∷ kinds) (ns, cs, is, rest) (ms, ds, js, others) short =
      let here = one_count at run kind (record { numbers = ns; cards = cs; is = is }) (record { numbers = ms; cards = ds; is = js }) in
      omega (
        arith,
        here,
        sum_by-cons (parent_count pairs) kind kinds,
        length-append run.1 (flat runs),
        next_count (at + 8) runs kinds rest others (omega (arith, short)),
      )

-- the parents of types that stand at one offset
types_count : (c : List ℕ) (at : ℕ) (pairs others : Pairs) (kinds types : List (List ℕ))
    → RecordsAt (Stands c) 8 (IsSubclass (Stands c) pairs) at kinds
    → RecordsAt (Stands c) 8 (IsSubclass (Stands c) others) at types → length kinds ≡ length types
    → sum_by (parent_count pairs) kinds ≡ sum_by (parent_count others) types
types_count c at pairs others [] [] one two size = refl
types_count c at pairs others [] (type ∷ types) one two size = absurd (omega (arith, size))
types_count c at pairs others (kind ∷ kinds) [] one two size = absurd (omega (arith, size))
types_count c at pairs others (kind ∷ kinds) (type ∷ types) (ns, cs, is, rest) (ms, ds, js, more) size =
    let here = same_entry c at kind type (parents pairs kind) (parents others type)
    (subclass_entry c at pairs kind (record { numbers = ns; cards = cs; is = is }))
    (subclass_entry c at others type (record { numbers = ms; cards = ds; is = js })) in
    omega (
      arith,
      here.counts,
      sum_by-cons (parent_count pairs) kind kinds,
      sum_by-cons (parent_count others) type types,
      types_count c (at + 8) pairs others kinds types rest more (omega (arith, size)),
    )

-- pairs whose parent lists stand at one offset are as many
pub same_parents_count : (c : List ℕ) (at : ℕ) (pairs others : Pairs) → ParentsAt (Stands c) at pairs → ParentsAt (Stands c) at others
    → length pairs ≡ length others
same_parents_count c at pairs others one two =
    let size = ap (λ (ns : List ℕ). get_or ns 0 0)
    (same_numbers c at (length one.kinds ∷ []) (length two.kinds ∷ []) refl one.stand.count two.stand.count) in
    sym (parents_sum pairs one.kinds one.permuted)
    ∙ types_count c (at + 4) pairs others one.kinds two.kinds one.stand.records two.stand.records size
    ∙ parents_sum others two.kinds two.permuted
