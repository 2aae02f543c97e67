-- Entries that stand are a parent list of their pairs.
use Rattle.std.proofs.Common.{◌≡◌, ℕ, suc, ◌+◌, Bool, true, false, List, [], ◌∷◌, ◌++◌, map, bytes_eq, ap, refl, ◌∙◌, arith}
use Rattle.std.specs.List.{All, AllPairs}
use Rattle.std.specs.Set.{is_member}
use Rattle.std.proofs.lemmas.List.Elements.{All-append, All-cons, All-head, All-nil, All-tail, All-weaker}
use Rattle.std.proofs.lemmas.List.Kept.{AllPairs-cons}
use Rattle.std.proofs.lemmas.List.Sorted.{IsPermutation-refl}
use Rattle.mime_base.specs.Cache.Bytes.{Stands}
use Rattle.mime_base.specs.Format.Parents.{ParentsAt}
use Rattle.mime_base.specs.Format.Records.{CardsAt}
use Rattle.mime_base.specs.Format.Runs.{AreRuns, IsRun, OfKind, PlainRun, first_text}
use Rattle.mime_base.specs.Format.Sorted.{text_lt}
use Rattle.mime_base.proofs.FormatLemmas.ParentRuns.{parents_stand}
use Rattle.mime_base.proofs.FormatLemmas.TextOrder.{less_differs, text_order}
use Rattle.mime_load.specs.ParentLists.{Entries, IsBefore, IsGood}
use Rattle.mime_load.proofs.ParentEntries.{Pairs, flat}
use Rattle.mime_load.proofs.RecordLemmas.{list_said}

-- the first text of a pair comes after a type
abbrev After : List ℕ → List ℕ × List ℕ → Type 0
After kind pair = text_lt kind pair.0 ≡ true

-- pairs of a type have it as their first text
of_kind_all : (kind : List ℕ) (pairs : Pairs) → OfKind kind pairs → All (λ pair. pair.0 ≡ kind) pairs
of_kind_all kind [] of = All-nil (λ pair. pair.0 ≡ kind)
of_kind_all kind (pair ∷ pairs) of = All-cons (λ pair. pair.0 ≡ kind) pair pairs of.0 (of_kind_all kind pairs of.1)

-- the pairs of types that come after a type
flat_after : (kind : List ℕ) (runs : List PlainRun) → All (λ (run : PlainRun). text_lt kind run.0 ≡ true) runs → All IsGood runs
    → All (After kind) (flat runs)
flat_after kind [] after good = All-nil (After kind)
flat_after kind (run ∷ runs) after good =
    All-append (After kind) run.1 (flat runs)
    (All-weaker (λ pair. pair.0 ≡ run.0) (After kind) (λ pair is. ap (text_lt kind) is
    ∙ All-head (λ (r : PlainRun). text_lt kind r.0 ≡ true) run runs after) run.1
    (of_kind_all run.0 run.1 (All-head IsGood run runs good).of_kind))
    (flat_after kind runs (All-tail (λ (r : PlainRun). text_lt kind r.0 ≡ true) run runs after) (All-tail IsGood run runs good))

-- a type is none of those that come after it
not_after : (kind : List ℕ) (pairs : Pairs) → All (After kind) pairs → is_member bytes_eq (map first_text pairs) kind ≡ false
not_after kind [] after = refl
not_after kind (pair ∷ pairs) after =
    rw (less_differs kind pair.0 (All-head (After kind) pair pairs after), not_after kind pairs (All-tail (After kind) pair pairs after)) refl

-- the first run is before all others
first_before : (run : PlainRun) (runs : List PlainRun) → AllPairs IsBefore (run ∷ runs) → All (λ (r : PlainRun). text_lt run.0 r.0 ≡ true) runs
first_before run runs before k d within = before 0 (suc k) d (omega arith) (omega arith)

-- the others are before one another
rest_before : (run : PlainRun) (runs : List PlainRun) → AllPairs IsBefore (run ∷ runs) → AllPairs IsBefore runs
rest_before run runs before i j d l within = before (suc i) (suc j) d (omega arith) (omega arith)

-- they are runs of all their pairs
are_runs : (runs : List PlainRun) → All IsGood runs → AllPairs IsBefore runs → AreRuns runs (flat runs)
are_runs [] good before = refl
are_runs (run ∷ runs) good before =
    let one = All-head IsGood run runs good in
    let others = All-tail IsGood run runs good in (
      flat runs,
      refl,
      one.some,
      one.of_kind,
      not_after run.0 (flat runs) (flat_after run.0 runs (first_before run runs before) others),
      are_runs runs others (rest_before run runs before),
    )

-- the second pair does not come before the first
abbrev InOrder : List ℕ × List ℕ → List ℕ × List ℕ → Type 0
InOrder left right = text_lt right.0 left.0 ≡ false

-- a text does not come before itself
not_itself : (kind : List ℕ) → text_lt kind kind ≡ false
not_itself kind = by (text_lt kind kind) refl
  where
    by : (test : Bool) → text_lt kind kind ≡ test → text_lt kind kind ≡ false
    by true is = text_order.one_way kind kind is
    by false is = is

-- pairs of a type, and then those that come after it
kind_then : (kind : List ℕ) (pairs others : Pairs) → OfKind kind pairs → All (After kind) others → AllPairs InOrder others
    → AllPairs InOrder (pairs ++ others)
kind_then kind [] others of after rest = rest
kind_then kind (pair ∷ pairs) others of after rest =
    AllPairs-cons InOrder pair (pairs ++ others)
    (All-append (InOrder pair) pairs others
    (All-weaker (λ other. other.0 ≡ kind) (InOrder pair) (λ other is. rw (is, of.0) (not_itself kind)) pairs (of_kind_all kind pairs of.1))
    (All-weaker (After kind) (InOrder pair) (λ other later. rw of.0 (text_order.one_way kind other.0 later)) others after))
    (kind_then kind pairs others of.1 after rest)

-- all pairs are in order
flat_sorted : (runs : List PlainRun) → All IsGood runs → AllPairs IsBefore runs → AllPairs InOrder (flat runs)
flat_sorted [] good before = λ i j d l within. absurd (omega arith)
flat_sorted (run ∷ runs) good before =
    let others = All-tail IsGood run runs good in
    kind_then run.0 run.1 (flat runs) (All-head IsGood run runs good).of_kind
    (flat_after run.0 runs (first_before run runs before) others) (flat_sorted runs others (rest_before run runs before))

-- entries that stand are a parent list of their pairs
pub parents_whole : (c : List ℕ) (at count i : ℕ) (previous : List ℕ) (pairs : Pairs) → CardsAt (Stands c) at (count ∷ []) → i ≡ count
    → Entries c (at + 4) i previous pairs → ParentsAt (Stands c) at pairs
parents_whole c at count i previous pairs head all e =
    rw e.flat (parents_stand (Stands c) at (flat e.runs) (flat e.runs) e.runs
    (record {
      permuted = IsPermutation-refl (flat e.runs);
      in_order = λ k d low within. flat_sorted e.runs e.good e.before k (k + 1) d (omega arith) within;
      ties = λ text. refl;
    })
    (are_runs e.runs e.good e.before)
    (list_said (Stands c) 8 (IsRun (Stands c)) at count e.runs head (e.size ∙ all) e.stand))
