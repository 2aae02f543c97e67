-- Records of runs stay as more is written, and runs take what the parent list does.
use Rattle.std.proofs.Common.{◌≡◌, ℕ, ◌+◌, List, [], ◌∷◌, map, sum_by, refl, ap, arith}
use Rattle.std.proofs.lemmas.List.{length-map}
use Rattle.std.proofs.lemmas.List.Sorted.{sum_by-IsPermutation}
use Rattle.std.proofs.lemmas.List.Sums.{sum_by-append, sum_by-cons}
use Rattle.mime_base.specs.Format.Parents.{IsName, subclasses}
use Rattle.mime_base.specs.Format.Records.{ListAt, RecordsAt, Standing, TextAt}
use Rattle.mime_base.specs.Format.Room.{parents_room, text_room}
use Rattle.mime_base.specs.Format.Runs.{AreRuns, IsRun, PlainRun, first_text, second_text}
use Rattle.mime_base.specs.Format.Sorted.{IsSortedByText}
use Rattle.mime_base.proofs.FormatLemmas.RunKinds.{kinds_permuted}
use Rattle.mime_store.specs.Runs.{run_parts_room, runs_room, seconds_room}
use Rattle.mime_store.specs.Lists.{IsRow}
use Rattle.mime_store.specs.Written.{Grew, Written}
use Rattle.mime_store.proofs.ListLemmas.Gather.{Keeps, row_is}
use Rattle.mime_store.proofs.ListLemmas.Entries.{cards_carry, records_carry, text_carry}
use Rattle.mime_store.proofs.BytesLemmas.Written.{written_more}

-- pairs of texts
abbrev Pairs : Type 0
Pairs = List (List ℕ × List ℕ)

-- the record of a text stays one as more is written
pub text_keeps : Keeps IsName
text_keeps S S' f text row h = (h.0, h.1, text_carry S S' f h.0 text h.2)

-- records of second texts are those of their list
names_stand : (S : Standing) (at : ℕ) (pairs : Pairs) → RecordsAt S 4 (λ (pair : List ℕ × List ℕ) row. IsName S pair.1 row) at pairs
    → RecordsAt S 4 (IsName S) at (map second_text pairs)
names_stand S at [] h = tt
names_stand S at (pair ∷ pairs) h = (h.0, h.1, h.2, names_stand S (at + 4) pairs h.3)

-- the record of a run stays one as more is written
pub run_keeps : Keeps IsRun
run_keeps S S' f run row h = (
  h.0,
  h.1,
  h.2,
  text_carry S S' f h.0 run.0 h.3,
  record {
    count = cards_carry S S' f h.1 _ h.4.count;
    records = records_carry IsName text_keeps S S' f 4 (h.1 + 4) (map second_text run.1) h.4.records;
  },
)

-- the row of a run, whose first text and list of second texts were written one after another
pub run_row : (mid new : List ℕ) (run : PlainRun) (kind list size : ℕ) → TextAt (Written mid) kind run.0 → Grew mid new size
    → ListAt (Written new) 4 (λ (pair : List ℕ × List ℕ) row. IsName (Written new) pair.1 row) list run.1
    → IsRow IsRun 2 new run (kind ∷ list ∷ [])
run_row mid new run kind list size text g at =
    row_is IsRun run_keeps 2 new run (kind ∷ list ∷ []) refl (
      kind,
      list,
      refl,
      text_carry (Written mid) (Written new) (written_more mid new size g) kind run.0 text,
      record { count = rw (length-map run.1 second_text) at.count; records = names_stand (Written new) (list + 4) run.1 at.records },
    )

-- what runs take is what their first texts and all second texts take
runs-room : (runs : List PlainRun) (sorted : Pairs) → AreRuns runs sorted
    → runs_room runs ≡ sum_by (λ kind. 12 + text_room kind) (map (λ (run : PlainRun). run.0) runs) + seconds_room sorted
runs-room [] sorted h = rw h refl
runs-room (run ∷ runs) sorted h =
    omega (
      arith,
      runs-room runs h.0 h.5,
      sum_by-cons (λ (r : PlainRun). 8 + run_parts_room r) run runs,
      sum_by-cons (λ (kind : List ℕ). 12 + text_room kind) run.0 (map (λ (r : PlainRun). r.0) runs),
      ap seconds_room h.1,
      sum_by-append (λ (pair : List ℕ × List ℕ). 4 + text_room pair.1) run.1 h.0,
    )

-- the runs take what the parent list does
pub runs_room-is : (pairs sorted : Pairs) (runs : List PlainRun) → IsSortedByText first_text pairs sorted → AreRuns runs sorted
    → runs_room runs ≡ parents_room pairs
runs_room-is pairs sorted runs by_text h =
    omega (
      arith,
      runs-room runs sorted h,
      sum_by-IsPermutation (λ (kind : List ℕ). 12 + text_room kind) (subclasses pairs) (map (λ (run : PlainRun). run.0) runs)
          (kinds_permuted pairs sorted runs by_text.permuted h),
      sum_by-IsPermutation (λ (pair : List ℕ × List ℕ). 4 + text_room pair.1) pairs sorted by_text.permuted,
    )
