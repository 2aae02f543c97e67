use Rattle.std.proofs.Common.{◌<◌, ℕ, ◌+◌, ◌*◌, List, [], ◌∷◌, length, get_or, ap, refl, arith, rules}
use Rattle.std.proofs.lemmas.List.{length-map}
use Rattle.std.proofs.lemmas.Result.{err_from_is_err_and}
use Rattle.mime_base.specs.Cache.Bytes.{Stands}
use Rattle.mime_base.specs.Database.Subclass.{parents}
use Rattle.mime_base.specs.Format.Parents.{IsSubclass, ParentsAt}
use Rattle.mime_base.specs.Format.Records.{CardsAt}
use Rattle.mime_load.specs.Lent.{plain_pair, plain_pairs}
use Rattle.mime_load.proofs.ParentEntries.{entries_more, entries_none}
use Rattle.mime_load.proofs.ParentsWhole.{parents_whole}
use Rattle.mime_load.proofs.NextRecords.{list_inside}
use Rattle.mime_load.proofs.ParentTypes.{kind_parents, kind_there, next_parents, next_rises}
use Rattle.mime_load.proofs.ParentsRead.{subclass_long}
use Rattle.mime_load.proofs.SameLemmas.{same_numbers}
use Rattle.mime_load.proofs.TakingLemmas.{takes_entries, takes_entry}
use Rattle.mime_load.proofs.parents.parents_at.Goals as goal

pub loop-i-init : goal.loop-i-init
loop-i-init c = record {
  entries = rw c.new-pairs.ensures.items (entries_none c.args.source.now.counted.now _ []);
  records = search rules;
  takes = search rules;
}

pub loop-i-preserved : goal.loop-i-preserved
loop-i-preserved c = record {
  entries = entries_more c.args.source.now.counted.now _ c.loop-i.i c.loop-i.previous.now c.in_ok-kind.kind.now
      (plain_pairs c.loop-i.pairs.items) (plain_pairs c.read_entry.new.pairs.items) c.loop-i.invariant.entries
      (c.comes_next.ensures.rises (search rules)) (rw c.from.ensures at c.in_ok-kind.ensures.entry);
  records = search rules;
  takes = takes_entry c.loop-i.i c.read_count.new.taking c.loop-i.taking c.read_entry.new.taking c.loop-i.invariant.takes
      c.read_entry.ensures.takes;
}

pub returns-clause-stand : goal.returns-clause-stand
returns-clause-stand c = parents_whole c.args.source.now.counted.now c.args.at c.in_ok-count.count c.loop-i.i _ (plain_pairs c.loop-i.pairs.items)
    (rw c.from-start.ensures at c.in_ok-count.ensures.count) (omega (arith, c.loop-i-test.false, c.loop-i.auto.i-end))
    (rw c.from-start.ensures at c.loop-i.invariant.entries)

pub returns-in_err-kind-clause-takes : goal.returns-in_err-kind-clause-takes
returns-in_err-kind-clause-takes c =
    takes_entries c.args.source.now.counted.now (c.loop-i.i + 1) c.args.taking.now c.read_count.new.taking c.read_entry.new.taking
    c.read_count.ensures.looks.takes
    (takes_entry c.loop-i.i c.read_count.new.taking c.loop-i.taking c.read_entry.new.taking c.loop-i.invariant.takes c.read_entry.ensures.takes)
    (omega (arith, c.in_ok-count.ensures.inside, c.loop-i-test.true))

pub returns-then-not-comes_next-clause-takes : goal.returns-then-not-comes_next-clause-takes
returns-then-not-comes_next-clause-takes c =
    takes_entries c.args.source.now.counted.now (c.loop-i.i + 1) c.args.taking.now c.read_count.new.taking c.read_entry.new.taking
    c.read_count.ensures.looks.takes
    (takes_entry c.loop-i.i c.read_count.new.taking c.loop-i.taking c.read_entry.new.taking c.loop-i.invariant.takes c.read_entry.ensures.takes)
    (omega (arith, c.in_ok-count.ensures.inside, c.loop-i-test.true))

pub returns-clause-takes : goal.returns-clause-takes
returns-clause-takes c =
    takes_entries c.args.source.now.counted.now c.loop-i.i c.args.taking.now c.read_count.new.taking c.loop-i.taking c.read_count.ensures.looks.takes
    c.loop-i.invariant.takes (omega (arith, c.in_ok-count.ensures.inside, c.loop-i-test.false, c.loop-i.auto.i-end))

pub returns-in_err-count-clause-need : goal.returns-in_err-count-clause-need
returns-in_err-count-clause-need c = λ pairs list room.
    let cache = c.args.source.now.counted.now in
    let need = rw c.from-start.ensures at c.in_err-count.ensures.need in
    let p = err_from_is_err_and c.from_residual.result c.from_residual.ensures.1 in
    rw (p.1, p.2) (need (length list.kinds) list.stand.count
    (list_inside cache 8 (IsSubclass (Stands cache) pairs) (subclass_long cache pairs) c.args.at list.kinds list.stand))

-- the next type of those that stand
within_kinds : (cache : List ℕ) (at count i : ℕ) (pairs : List (List ℕ × List ℕ)) (list : ParentsAt (Stands cache) at pairs)
    → CardsAt (Stands cache) at (count ∷ []) → i < count → i < length list.kinds
within_kinds cache at count i pairs list head low =
    omega (
      arith,
      low,
      ap (λ (ns : List ℕ). get_or ns 0 0) (same_numbers cache at (count ∷ []) (length list.kinds ∷ []) refl head list.stand.count),
    )

pub returns-in_err-kind-clause-need : goal.returns-in_err-kind-clause-need
returns-in_err-kind-clause-need c = λ pairs list room.
    let cache = c.args.source.now.counted.now in
    let within = within_kinds cache c.args.at c.in_ok-count.count c.loop-i.i pairs list
    (rw c.from-start.ensures at c.in_ok-count.ensures.count)
    c.loop-i-test.true in
    let entries = rw c.from-start.ensures at c.loop-i.invariant.entries in
    let stands = kind_there cache c.args.at pairs list c.loop-i.i (c.from-start.result + 4 + 8 * c.from.result) within
    (omega (arith, c.from-start.ensures, c.from.ensures)) in
    let fits = next_parents cache c.args.at pairs list c.loop-i.i c.loop-i.previous.now (plain_pairs c.loop-i.pairs.items) entries within in
    let p = err_from_is_err_and c.from_residual-in_err-kind.result c.from_residual-in_err-kind.ensures.1 in
    rw (p.1, p.2) (c.in_err-kind.ensures.need (get_or list.kinds c.loop-i.i []) (parents pairs (get_or list.kinds c.loop-i.i [])) stands
    (kind_parents cache c.args.at pairs list c.loop-i.i within)
    (omega (
      arith,
      room,
      fits,
      length-map c.loop-i.pairs.items plain_pair,
      c.loop-i.invariant.records,
      c.read_count.ensures.looks.records,
    )))

pub returns-then-not-comes_next-clause-need : goal.returns-then-not-comes_next-clause-need
returns-then-not-comes_next-clause-need c = λ pairs list room.
    let cache = c.args.source.now.counted.now in
    let within = within_kinds cache c.args.at c.in_ok-count.count c.loop-i.i pairs list
    (rw c.from-start.ensures at c.in_ok-count.ensures.count)
    c.loop-i-test.true in
    let entries = rw c.from-start.ensures at c.loop-i.invariant.entries in
    let falls = c.comes_next.ensures.falls c.if-not-comes_next.true in
    absurd (next_rises cache c.args.at pairs list c.loop-i.i c.loop-i.previous.now (plain_pairs c.loop-i.pairs.items) entries within
    c.in_ok-kind.kind.now (plain_pairs c.read_entry.new.pairs.items)
    (rw (c.from-start.ensures, c.from.ensures) at c.in_ok-kind.ensures.entry) falls.0 falls.1)
