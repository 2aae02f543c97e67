-- A list of the runs of sorted pairs is the parent list of the pairs.
use Rattle.std.proofs.Common.{◌≡◌, ℕ, ◌+◌, true, false, cond, List, [], ◌∷◌, map, refl, sym, ap, subst, ◌∙◌, bytes_eq}
use Rattle.std.proofs.lemmas.List.{length-map}
use Rattle.mime_base.specs.Database.Subclass.{parents}
use Rattle.mime_base.specs.Format.Parents.{IsName, IsSubclass, ParentsAt}
use Rattle.mime_base.specs.Format.Records.{ListAt, RecordsAt, Standing}
use Rattle.mime_base.specs.Format.Runs.{AreRuns, IsRun, PlainRun, first_text, second_text}
use Rattle.mime_base.specs.Format.Sorted.{IsSortedByText, with_key}
use Rattle.mime_base.proofs.FormatLemmas.RunKinds.{Pairs, kinds_permuted, kinds_sorted}
use Rattle.mime_base.proofs.FormatLemmas.RunsWhole.{Whole, runs_whole}

-- the parents of a type are the second texts of its pairs
parents-are : (kind : List ℕ) (pairs : Pairs) → parents pairs kind ≡ map second_text (with_key first_text kind pairs)
unfolding parents
parents-are kind [] = refl
parents-are kind (pair ∷ pairs) =
    rw (parents-are kind pairs) (elim (bytes_eq pair.0 kind) as (λ t.
    cond t (pair.1 ∷ map second_text (with_key first_text kind pairs)) (map second_text (with_key first_text kind pairs))
    ≡ map second_text (cond t (pair ∷ with_key first_text kind pairs) (with_key first_text kind pairs)))
    [ true ↦ refl | false ↦ refl ])

-- records of runs are those of their types
subclasses_stand : (S : Standing) (pairs sorted : Pairs)
    → ((kind : List ℕ) → with_key first_text kind sorted ≡ with_key first_text kind pairs)
    → (at : ℕ) (runs : List PlainRun) → Whole sorted runs → RecordsAt S 8 (IsRun S) at runs
    → RecordsAt S 8 (IsSubclass S pairs) at (map (λ (run : PlainRun). run.0) runs)
subclasses_stand S pairs sorted ties at [] w h = tt
subclasses_stand S pairs sorted ties at (run ∷ runs) w h =
    let is = h.2 in
    let same : map second_text run.1 ≡ parents pairs run.0 =
    ap (map second_text) (sym w.0 ∙ ties run.0) ∙ sym (parents-are run.0 pairs) in (
      h.0,
      h.1,
      (is.0, is.1, is.2, is.3, subst (ListAt S 4 (IsName S) is.1) same is.4),
      subclasses_stand S pairs sorted ties (at + 8) runs w.1 h.3,
    )

-- the list of runs is the parent list of the pairs
pub parents_stand : (S : Standing) (at : ℕ) (pairs sorted : Pairs) (runs : List PlainRun) → IsSortedByText first_text pairs sorted
    → AreRuns runs sorted → ListAt S 8 (IsRun S) at runs → ParentsAt S at pairs
parents_stand S at pairs sorted runs by_text h list = record {
  kinds = map (λ (run : PlainRun). run.0) runs;
  permuted = kinds_permuted pairs sorted runs by_text.permuted h;
  in_order = kinds_sorted runs sorted h by_text.in_order;
  stand = record {
    count = rw (length-map runs (λ (run : PlainRun). run.0)) list.count;
    records = subclasses_stand S pairs sorted by_text.ties (at + 4) runs (runs_whole runs sorted h) list.records;
  };
}
