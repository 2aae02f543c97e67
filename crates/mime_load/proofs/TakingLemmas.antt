-- What is taken, step by step.
use Rattle.std.proofs.Common.{◌≡◌, ◌≤◌, ◌<◌, ap, ℕ, ◌+◌, ◌*◌, ◌/◌, List, length, [], ◌∷◌, ◌++◌, ◌∙◌, arith}
use Rattle.std.proofs.lemmas.List.{length_push}
use Rattle.std.proofs.lemmas.List.Sums.{sum_by-cons}
use Rattle.mime_base.specs.Format.Magic.{line_count}
use Rattle.mime_base.specs.Format.Packed.{forest_value_length, matchlet_count, value_length}
use Rattle.mime_base.specs.Magic.{PlainSection}
use Rattle.mime_base.specs.declared.meter.Meter.{Meter}
use Rattle.mime_load.specs.Taking.{OnlyLooks, PaysWide, TakesOnlyRecords, TakesSections}
use Rattle.mime_load.specs.declared.taking.Taking.{Taking}

-- a step after others
pub wide_then : (old mid new : Taking) → PaysWide 0 old mid → PaysWide 0 mid new → PaysWide 0 old new
wide_then old mid new first second =
    record { pays = record { nodes_paid = omega arith; bytes_paid = omega arith }; wide = omega arith }

-- two steps, of which each pays but for some records and texts
pub takes_both : (n m t s : ℕ) (old mid new : Taking) → TakesOnlyRecords n t old mid → TakesOnlyRecords m s mid new
    → TakesOnlyRecords (n + m) (t + s) old new
takes_both n m t s old mid new first second = record {
  value_bytes = second.value_bytes ∙ first.value_bytes;
  pays = record {
    nodes_paid = omega (arith, first.pays.nodes_paid, second.pays.nodes_paid);
    bytes_paid = omega (arith, first.pays.bytes_paid, second.pays.bytes_paid);
  };
}

-- no more records and texts than that
takes_within : (n m t s : ℕ) (old new : Taking) → n ≤ m → t ≤ s → TakesOnlyRecords n t old new → TakesOnlyRecords m s old new
takes_within n m t s old new fewer shorter took = record {
  value_bytes = took.value_bytes;
  pays = record {
    nodes_paid = omega (arith, took.pays.nodes_paid, fewer);
    bytes_paid = omega (arith, took.pays.bytes_paid, shorter);
  };
}

-- a step that pays for itself, after others
pub takes_more : (nodes texts : ℕ) (old mid new : Taking) → TakesOnlyRecords nodes texts old mid → TakesOnlyRecords 0 0 mid new
    → TakesOnlyRecords nodes texts old new
takes_more nodes texts old mid new first second = record {
  value_bytes = second.value_bytes ∙ first.value_bytes;
  pays = record {
    nodes_paid = omega (arith, first.pays.nodes_paid, second.pays.nodes_paid);
    bytes_paid = omega (arith, first.pays.bytes_paid, second.pays.bytes_paid);
  };
}

-- the lines of sections, and of one more
matchlets_push : (xs : List PlainSection) (y : PlainSection)
    → matchlet_count (xs ++ y ∷ []) ≡ matchlet_count xs + matchlet_count (y ∷ [])
matchlets_push [] y = omega arith
matchlets_push (x ∷ xs) y =
    omega (
      arith,
      matchlets_push xs y,
      sum_by-cons (λ (s : PlainSection). line_count s.lines) x xs,
      sum_by-cons (λ (s : PlainSection). line_count s.lines) x (xs ++ y ∷ []),
    )

-- their values
value_lengths_push : (xs : List PlainSection) (y : PlainSection)
    → value_length (xs ++ y ∷ []) ≡ value_length xs + value_length (y ∷ [])
value_lengths_push [] y = omega arith
value_lengths_push (x ∷ xs) y =
    omega (
      arith,
      value_lengths_push xs y,
      sum_by-cons (λ (s : PlainSection). forest_value_length s.lines) x xs,
      sum_by-cons (λ (s : PlainSection). forest_value_length s.lines) x (xs ++ y ∷ []),
    )

-- a section after others
pub sections_taken : (old mid new : Taking) (xs : List PlainSection) (s : PlainSection) → TakesSections old mid xs
    → TakesSections mid new (s ∷ []) → TakesSections old new (xs ++ s ∷ [])
sections_taken old mid new xs s before one = record {
  records = omega (arith, before.records, one.records, matchlets_push xs s, length_push xs s);
  value_bytes = omega (arith, before.value_bytes, one.value_bytes, value_lengths_push xs s);
}

-- a count and that many pairs of a list in the cache
pub looks_list : (c : List ℕ) (i : ℕ) (old mid new : Taking) → OnlyLooks 1 0 old mid → OnlyLooks i (2 * i) mid new → 8 * i ≤ length c
    → OnlyLooks (1 + length c / 8) (length c / 4) old new
looks_list c i old mid new first rest inside = record {
  records = rest.records ∙ first.records;
  takes = takes_within (1 + i) (1 + length c / 8) (0 + 2 * i) (length c / 4) old new (omega (arith, inside)) (omega (arith, inside))
      (takes_both 1 i 0 (2 * i) old mid new first.takes rest.takes);
}

-- and of one more
pub looks_pair : (i : ℕ) (old mid new : Taking) → OnlyLooks i (2 * i) old mid → OnlyLooks 1 2 mid new
    → OnlyLooks (i + 1) (2 * (i + 1)) old new
looks_pair i old mid new before one = record {
  records = one.records ∙ before.records;
  takes = takes_within (i + 1) (i + 1) (2 * i + 2) (2 * (i + 1)) old new (omega arith) (omega arith)
      (takes_both i 1 (2 * i) 2 old mid new before.takes one.takes);
}

-- a count and the entries of a parent list in the cache
pub takes_entries : (c : List ℕ) (i : ℕ) (old mid new : Taking) → TakesOnlyRecords 1 0 old mid → TakesOnlyRecords (2 * i) i mid new
    → 8 * i ≤ length c → TakesOnlyRecords (1 + length c / 4) (length c / 8) old new
takes_entries c i old mid new first rest inside =
    takes_within (1 + 2 * i) (1 + length c / 4) (0 + i) (length c / 8) old new (omega (arith, inside)) (omega (arith, inside))
    (takes_both 1 (2 * i) 0 i old mid new first rest)

-- and of one more
pub takes_entry : (i : ℕ) (old mid new : Taking) → TakesOnlyRecords (2 * i) i old mid → TakesOnlyRecords 2 1 mid new
    → TakesOnlyRecords (2 * (i + 1)) (i + 1) old new
takes_entry i old mid new before one =
    takes_within (2 * i + 2) (2 * (i + 1)) (i + 1) (i + 1) old new (omega arith) (omega arith)
    (takes_both (2 * i) 2 i 1 old mid new before one)

-- a count, the room of that many parents, and so many of them
pub takes_parents : (count i : ℕ) (old mid taken new : Taking) → TakesOnlyRecords 1 0 old mid → taken.records + 4 * count ≡ mid.records
    → taken.value_bytes ≡ mid.value_bytes → taken.meter ≡ mid.meter → TakesOnlyRecords i i taken new → i ≤ count
    → TakesOnlyRecords 1 0 old new
takes_parents count i old mid taken new first records values meter rest within =
    let nodes : taken.meter.nodes ≡ mid.meter.nodes = ap (λ (m : Meter). m.nodes) meter in
    let bytes : taken.meter.bytes ≡ mid.meter.bytes = ap (λ (m : Meter). m.bytes) meter in
    record {
      value_bytes = rest.value_bytes ∙ values ∙ first.value_bytes;
      pays = record {
        nodes_paid = omega (arith, first.pays.nodes_paid, rest.pays.nodes_paid, records, nodes, within);
        bytes_paid = omega (arith, first.pays.bytes_paid, rest.pays.bytes_paid, records, values, bytes, within);
      };
    }

-- and one more
pub takes_parents_more : (count i : ℕ) (old mid taken last new : Taking) → TakesOnlyRecords 1 0 old mid
    → taken.records + 4 * count ≡ mid.records → taken.value_bytes ≡ mid.value_bytes → taken.meter ≡ mid.meter
    → TakesOnlyRecords i i taken last → TakesOnlyRecords 1 1 last new → i < count → TakesOnlyRecords 1 0 old new
takes_parents_more count i old mid taken last new first records values meter rest one within =
    takes_parents count (i + 1) old mid taken new first records values meter (takes_both i 1 i 1 taken last new rest one)
    (omega (arith, within))
