use Rattle.std.proofs.Common.{ℕ, ◌+◌, ◌*◌, List, [], ◌∷◌, length, get_or, ap, refl, ◌∙◌, arith, rules}
use Rattle.std.proofs.lemmas.Result.{err_from_is_err_and}
use Rattle.mime_base.specs.Cache.Bytes.{Stands}
use Rattle.mime_base.specs.Format.Parents.{IsName}
use Rattle.mime_load.specs.Lent.{plain_pair, plain_pairs}
use Rattle.mime_load.proofs.ParentEntries.{adding_more, adding_none, adding_whole}
use Rattle.mime_load.proofs.NextRecords.{list_inside}
use Rattle.mime_load.proofs.ParentsRead.{name_long}
use Rattle.mime_load.proofs.RecordLemmas.{record_at}
use Rattle.mime_load.proofs.RuleLists.{mapped_pushed}
use Rattle.mime_load.proofs.SameLemmas.{same_numbers}
use Rattle.mime_load.proofs.TakingLemmas.{takes_both, takes_parents, takes_parents_more}
use Rattle.mime_load.proofs.parents.read_parents.Goals as goal

pub loop-i-init : goal.loop-i-init
loop-i-init c = record {
  size = search rules;
  adding = adding_none c.args.source.now.counted.now (c.args.at + 4) c.args.kind.now (plain_pairs c.args.pairs.now.items);
  looks = search rules;
}

pub loop-i-preserved : goal.loop-i-preserved
loop-i-preserved c = record {
  size = search rules;
  adding = adding_more c.args.source.now.counted.now (c.args.at + 4) c.loop-i.i _ c.args.kind.now c.in_ok-target.target.now
      (plain_pairs c.args.pairs.now.items) (plain_pairs c.loop-i.pairs.items) (plain_pairs c.push.new.self.items) c.loop-i.invariant.adding
      (mapped_pushed plain_pair c.loop-i.pairs.items c.push.new.self.items _ c.in_ok-push.ensures.items) (omega (arith, c.from.ensures))
      c.in_ok-target.ensures.stands;
  looks = record {
    records = c.read_parent.ensures.looks.records ∙ c.loop-i.invariant.looks.records;
    takes = takes_both c.loop-i.i 1 c.loop-i.i 1 c.take_records.new.taking c.loop-i.taking c.read_parent.new.taking c.loop-i.invariant.looks.takes
        c.read_parent.ensures.looks.takes;
  };
}

pub returns-clause-adds : goal.returns-clause-adds
returns-clause-adds c =
    adding_whole c.args.source.now.counted.now c.args.at c.in_ok-count.count c.loop-i.i c.args.kind.now (plain_pairs c.args.pairs.now.items)
    (plain_pairs c.loop-i.pairs.items) c.loop-i.invariant.adding c.in_ok-count.ensures.count
    (omega (arith, c.loop-i-test.false, c.loop-i.auto.i-end)) (omega (arith, c.if-count-eq0.false))

pub returns-in_err-target-clause-takes : goal.returns-in_err-target-clause-takes
returns-in_err-target-clause-takes c =
    takes_parents_more c.in_ok-count.count c.loop-i.i c.args.taking.now c.read_count.new.taking c.take_records.new.taking c.loop-i.taking
    c.read_parent.new.taking c.read_count.ensures.looks.takes (omega (arith, c.in_ok-take_records.ensures.taken)) c.take_records.ensures.value_bytes
    c.take_records.ensures.meter c.loop-i.invariant.looks.takes c.read_parent.ensures.looks.takes (omega (arith, c.loop-i-test.true))

pub returns-in_err-push-clause-takes : goal.returns-in_err-push-clause-takes
returns-in_err-push-clause-takes c =
    takes_parents_more c.in_ok-count.count c.loop-i.i c.args.taking.now c.read_count.new.taking c.take_records.new.taking c.loop-i.taking
    c.read_parent.new.taking c.read_count.ensures.looks.takes (omega (arith, c.in_ok-take_records.ensures.taken)) c.take_records.ensures.value_bytes
    c.take_records.ensures.meter c.loop-i.invariant.looks.takes c.read_parent.ensures.looks.takes (omega (arith, c.loop-i-test.true))

pub returns-clause-takes : goal.returns-clause-takes
returns-clause-takes c =
    takes_parents c.in_ok-count.count c.loop-i.i c.args.taking.now c.read_count.new.taking c.take_records.new.taking c.loop-i.taking
    c.read_count.ensures.looks.takes (omega (arith, c.in_ok-take_records.ensures.taken)) c.take_records.ensures.value_bytes
    c.take_records.ensures.meter c.loop-i.invariant.looks.takes (omega (arith, c.loop-i-test.false, c.loop-i.auto.i-end))

pub returns-clause-taken : goal.returns-clause-taken
returns-clause-taken c =
    omega (
      arith,
      c.loop-i.invariant.looks.records,
      c.loop-i.invariant.size,
      c.in_ok-take_records.ensures.taken,
      c.read_count.ensures.looks.records,
      c.loop-i-test.false,
      c.loop-i.auto.i-end,
    )

pub returns-in_err-count-clause-need : goal.returns-in_err-count-clause-need
returns-in_err-count-clause-need c = λ targets list some room.
    let cache = c.args.source.now.counted.now in
    let p = err_from_is_err_and c.from_residual.result c.from_residual.ensures.1 in
    rw (p.1, p.2) (c.in_err-count.ensures.need (length targets) list.count
    (list_inside cache 4 (IsName (Stands cache)) (name_long cache) c.args.at targets list))

pub returns-then-count-eq0-clause-need : goal.returns-then-count-eq0-clause-need
returns-then-count-eq0-clause-need c = λ targets list some room.
    let count = ap (λ (ns : List ℕ). get_or ns 0 0)
    (same_numbers c.args.source.now.counted.now c.args.at (c.in_ok-count.count ∷ []) (length targets ∷ []) refl c.in_ok-count.ensures.count
    list.count) in
    absurd (omega (arith, count, some, c.if-count-eq0.true))

pub returns-in_err-take_records-clause-need : goal.returns-in_err-take_records-clause-need
returns-in_err-take_records-clause-need c = λ targets list some room.
    let count = ap (λ (ns : List ℕ). get_or ns 0 0)
    (same_numbers c.args.source.now.counted.now c.args.at (c.in_ok-count.count ∷ []) (length targets ∷ []) refl c.in_ok-count.ensures.count
    list.count) in
    absurd (omega (arith, count, room, c.read_count.ensures.looks.records, c.from.ensures, c.in_err-take_records.ensures.fault))

pub returns-in_err-target-clause-need : goal.returns-in_err-target-clause-need
returns-in_err-target-clause-need c = λ targets list some room.
    let cache = c.args.source.now.counted.now in
    let count = ap (λ (ns : List ℕ). get_or ns 0 0)
    (same_numbers cache c.args.at (c.in_ok-count.count ∷ []) (length targets ∷ []) refl c.in_ok-count.ensures.count list.count) in
    let target = record_at (Stands cache) 4 (IsName (Stands cache)) (c.args.at + 4) c.loop-i.i
    (c.args.at + 4 + 4 * c.from-in-loop-i.result) targets []
    (omega (arith, count, c.loop-i-test.true)) (omega (arith, c.from-in-loop-i.ensures)) list.records in
    let p = err_from_is_err_and c.from_residual-in_err-target.result c.from_residual-in_err-target.ensures.1 in
    rw (p.1, p.2) (c.in_err-target.ensures.need (get_or targets c.loop-i.i []) target)
