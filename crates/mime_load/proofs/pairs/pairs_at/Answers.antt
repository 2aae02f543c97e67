use Rattle.std.proofs.Common.{◌≡◌, ℕ, ◌+◌, ◌*◌, ◌<◌, List, [], ◌∷◌, length, get_or, ap, refl, subst, ◌∙◌, arith, rules}
use Rattle.std.proofs.lemmas.List.{length-map}
use Rattle.std.proofs.lemmas.Result.{err_from_is_err_and}
use Rattle.mime_base.specs.Cache.Bytes.{Stands}
use Rattle.mime_base.specs.Format.Pairs.{IsPair}
use Rattle.mime_base.specs.Format.Records.{CardsAt, ListAt, RecordsAt}
use Rattle.mime_load.specs.Lent.{plain_pair, plain_pairs}
use Rattle.mime_load.specs.Parts.{RecordAt}
use Rattle.mime_load.specs.declared.pair.LentPair.{LentPair}
use Rattle.mime_load.proofs.NextRecords.{NextRecord, list_inside, next_record, pair_long, pairs_fall, same_pair}
use Rattle.mime_load.proofs.PairLemmas.{pairs_by_text, pairs_pushed}
use Rattle.mime_load.proofs.RecordLemmas.{list_whole, records_pushed}
use Rattle.mime_load.proofs.SameLemmas.{same_numbers}
use Rattle.mime_load.proofs.TakingLemmas.{looks_list, looks_pair}
use Rattle.mime_load.proofs.pairs.pairs_at.Goals as goal

pub loop-i-preserved : goal.loop-i-preserved
loop-i-preserved c = record {
  size = search rules;
  looks = looks_pair c.loop-i.i c.read_count.new.taking c.loop-i.taking c.read_pair.new.taking c.loop-i.invariant.looks c.read_pair.ensures.looks;
  sorted = pairs_pushed c.loop-i.pairs.items c.push.new.self.items c.in_ok-pair.pair c.in_ok-push.ensures.items c.loop-i.invariant.sorted
      (rw c.deref.ensures.value at (c.comes_next.ensures.rises (search rules)));
  stand = records_pushed (Stands c.args.source.now.counted.now) 8 (IsPair (Stands c.args.source.now.counted.now)) plain_pair (c.args.at + 4)
      c.loop-i.i c.loop-i.pairs.items c.push.new.self.items c.in_ok-pair.pair c.in_ok-push.ensures.items c.loop-i.invariant.size
      c.loop-i.invariant.stand (rw c.from.ensures at c.in_ok-pair.ensures.stands);
}

pub returns-clause-stand : goal.returns-clause-stand
returns-clause-stand c = record {
  entries = plain_pairs c.loop-i.pairs.items;
  sorted = pairs_by_text (plain_pairs c.loop-i.pairs.items) c.loop-i.invariant.sorted;
  stand = list_whole (Stands c.args.source.now.counted.now) 8 (IsPair (Stands c.args.source.now.counted.now)) plain_pair c.args.at
      c.in_ok-count.count c.loop-i.pairs.items c.in_ok-count.ensures.count
      (omega (arith, c.loop-i.invariant.size, c.loop-i-test.false, c.loop-i.auto.i-end)) c.loop-i.invariant.stand;
}

pub returns-clause-looks : goal.returns-clause-looks
returns-clause-looks c =
    looks_list c.args.source.now.counted.now c.loop-i.i c.args.taking.now c.read_count.new.taking c.loop-i.taking c.read_count.ensures.looks
    c.loop-i.invariant.looks (omega (arith, c.in_ok-count.ensures.inside, c.loop-i-test.false, c.loop-i.auto.i-end))

pub returns-in_err-pair-clause-looks : goal.returns-in_err-pair-clause-looks
returns-in_err-pair-clause-looks c =
    looks_list c.args.source.now.counted.now (c.loop-i.i + 1) c.args.taking.now c.read_count.new.taking c.read_pair.new.taking
    c.read_count.ensures.looks
    (looks_pair c.loop-i.i c.read_count.new.taking c.loop-i.taking c.read_pair.new.taking c.loop-i.invariant.looks c.read_pair.ensures.looks)
    (omega (arith, c.in_ok-count.ensures.inside, c.loop-i-test.true))

pub returns-then-not-comes_next-clause-looks : goal.returns-then-not-comes_next-clause-looks
returns-then-not-comes_next-clause-looks c =
    looks_list c.args.source.now.counted.now (c.loop-i.i + 1) c.args.taking.now c.read_count.new.taking c.read_pair.new.taking
    c.read_count.ensures.looks
    (looks_pair c.loop-i.i c.read_count.new.taking c.loop-i.taking c.read_pair.new.taking c.loop-i.invariant.looks c.read_pair.ensures.looks)
    (omega (arith, c.in_ok-count.ensures.inside, c.loop-i-test.true))

pub returns-in_err-push-clause-looks : goal.returns-in_err-push-clause-looks
returns-in_err-push-clause-looks c =
    looks_list c.args.source.now.counted.now (c.loop-i.i + 1) c.args.taking.now c.read_count.new.taking c.read_pair.new.taking
    c.read_count.ensures.looks
    (looks_pair c.loop-i.i c.read_count.new.taking c.loop-i.taking c.read_pair.new.taking c.loop-i.invariant.looks c.read_pair.ensures.looks)
    (omega (arith, c.in_ok-count.ensures.inside, c.loop-i-test.true))

pub returns-in_err-count-clause-need : goal.returns-in_err-count-clause-need
returns-in_err-count-clause-need c = λ pairs stand.
    let cache = c.args.source.now.counted.now in
    let p = err_from_is_err_and c.from_residual.result c.from_residual.ensures.1 in
    rw (p.1, p.2) (c.in_err-count.ensures.need (length stand.entries) stand.stand.count
    (list_inside cache 8 (IsPair (Stands cache)) (pair_long cache) c.args.at stand.entries stand.stand))

-- the next pair of those that stand
next_of : (cache : List ℕ) (at count i : ℕ) (read : List LentPair) (entries : List (List ℕ × List ℕ)) → CardsAt (Stands cache) at (count ∷ [])
    → length read ≡ i → i < count → RecordsAt (Stands cache) 8 (IsPair (Stands cache)) (at + 4) (plain_pairs read)
    → ListAt (Stands cache) 8 (IsPair (Stands cache)) at entries
    → NextRecord (Stands cache) (IsPair (Stands cache)) (at + 4 + 8 * i) (plain_pairs read) entries
next_of cache at count i read entries head size within stand list =
    let same : count ≡ length entries =
    ap (λ (ns : List ℕ). get_or ns 0 0) (same_numbers cache at (count ∷ []) (length entries ∷ []) refl head list.count) in
    let long : length (plain_pairs read) ≡ i = length-map read plain_pair ∙ size in
    next_record (Stands cache) 8 (IsPair (Stands cache)) (same_pair cache) (at + 4) (at + 4 + 8 * i) (plain_pairs read) entries
    (omega (arith, long, within, same)) (omega (arith, long)) stand list.records

pub returns-in_err-pair-clause-need : goal.returns-in_err-pair-clause-need
returns-in_err-pair-clause-need c = λ pairs stand.
    let cache = c.args.source.now.counted.now in
    let next = next_of cache c.args.at c.in_ok-count.count c.loop-i.i c.loop-i.pairs.items stand.entries c.in_ok-count.ensures.count
    c.loop-i.invariant.size c.loop-i-test.true c.loop-i.invariant.stand stand.stand in
    let p = err_from_is_err_and c.from_residual-in_err-pair.result c.from_residual-in_err-pair.ensures.1 in
    rw (p.1, p.2) (c.in_err-pair.ensures.need next.member
    (subst (λ (at : ℕ). RecordAt (Stands cache) (IsPair (Stands cache)) at next.member) (omega (arith, c.from.ensures)) next.stands))

pub returns-then-not-comes_next-clause-need : goal.returns-then-not-comes_next-clause-need
returns-then-not-comes_next-clause-need c = λ pairs stand.
    let cache = c.args.source.now.counted.now in
    let next = next_of cache c.args.at c.in_ok-count.count c.loop-i.i c.loop-i.pairs.items stand.entries c.in_ok-count.ensures.count
    c.loop-i.invariant.size c.loop-i-test.true c.loop-i.invariant.stand stand.stand in
    let falls = rw c.deref.ensures.value at (c.comes_next.ensures.falls (search rules) c.in_ok-pair.pair) in
    let read : RecordAt (Stands cache) (IsPair (Stands cache)) (c.args.at + 4 + 8 * c.loop-i.i) (plain_pair c.in_ok-pair.pair) =
    rw c.from.ensures at c.in_ok-pair.ensures.stands in
    let same = same_pair cache (c.args.at + 4 + 8 * c.loop-i.i) (plain_pair c.in_ok-pair.pair) next.member read next.stands in
    absurd (pairs_fall c.loop-i.pairs.items c.in_ok-pair.pair next.more stand.entries next.member next.whole stand.sorted.in_order same
    falls.0 falls.1)
