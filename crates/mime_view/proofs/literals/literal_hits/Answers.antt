use Rattle.std.proofs.Common.{◌+◌, refl, sym, rules, arith}
use Rattle.std.proofs.Math.Nat.{mul-le-mul_left}
use Rattle.std.proofs.lemmas.Result.{err_from_is_err_and}
use Rattle.mime_base.specs.Cache.Bytes.{field}
use Rattle.mime_view.specs.Hits.{literal_visits, visits}
use Rattle.mime_view.proofs.LiteralLemmas.LiteralEntries.{texts_of}
use Rattle.mime_view.proofs.LiteralLemmas.LiteralPlaces.{placed_by, searched, some_visits, unmet, unmet_visits}
use Rattle.mime_view.proofs.HitsLemmas.Gathering.{offers_none}
use Rattle.mime_view.specs.Steps.{list_part}
use Rattle.mime_view.proofs.HitsLemmas.Parts.{none_within, searches_within}
use Rattle.mime_view.proofs.HitsLemmas.Steps.{finds_within}
use Rattle.mime_view.proofs.literals.literal_hits.Goals as goal

pub returns-in_err-count-clause-finds : goal.returns-in_err-count-clause-finds
returns-in_err-count-clause-finds c = λ rules stand.
    let here = rw (sym c.from-at.ensures) at stand in
    let s = searched c.args.query.now.counted.now c.from-at.result rules here (field c.args.query.now.counted.now c.from-at.result 0) refl in
    absurd (omega (arith, s.inside, c.in_err-count.ensures.fault.outside))

pub returns-in_err-sought-clause-finds : goal.returns-in_err-sought-clause-finds
returns-in_err-sought-clause-finds c = λ rules stand.
    let here = rw (sym c.from-at.ensures) at stand in
    let s = searched c.args.query.now.counted.now c.from-at.result rules here c.in_ok-count.count c.in_ok-count.ensures.count.0 in
    absurd (c.in_err-sought.ensures.answer (texts_of here.entries) s.size s.texts)

pub returns-then-sought-clause-finds : goal.returns-then-sought-clause-finds
returns-then-sought-clause-finds c = λ rules stand.
    let here = rw (sym c.from-at.ensures) at stand in
    let p = placed_by c.args.query.now.counted.now c.from-at.result rules here c.in_ok-count.count c.in_ok-count.ensures.count.0
    c.in_ok-sought.ensures.answer in
    let m = mul-le-mul_left (visits c.args.query.now.case) p.visits in
    let scan = finds_within p.literal (c.scan_entries.ensures.finds p.rest p.size p.reads p.run) m in
    record { answer = rw (sym p.same) scan.answer; need = scan.need; most = scan.most }

pub returns-in_err-pass_entry-clause-finds : goal.returns-in_err-pass_entry-clause-finds
returns-in_err-pass_entry-clause-finds c = λ rules stand.
    let here = rw (sym c.from-at.ensures) at stand in
    let p = placed_by c.args.query.now.counted.now c.from-at.result rules here c.in_ok-count.count c.in_ok-count.ensures.count.0
    c.in_ok-sought.ensures.answer in
    let none = unmet c.args.query.now.counted.now (c.from-at.result + 4) c.in_ok-sought.sought.place c.in_ok-count.count c.args.query.now.key.now
    p.rest p.size p.reads p.run (λ text l has. c.in_ok-sought.ensures.sought.other c.if-sought.false text l has) in
    let one = unmet_visits c.args.query.now.key.now p.rest none (omega (arith, p.size, c.if-sought-count.true)) in
    let m = some_visits (visits c.args.query.now.case) (literal_visits c.args.query.now.key.now rules) (omega (arith, one, p.visits)) in
    let pass = c.in_err-pass_entry.ensures.finds in
    let e = err_from_is_err_and c.from_residual-in_err-pass_entry.result c.from_residual-in_err-pass_entry.ensures.1 in
    rw (e.1, e.2)
    record { answer = λ ok. tt; need = λ enough. pass.need (omega (arith, m, enough)); most = omega (arith, m, pass.most) }

pub returns-in_ok-pass_entry-clause-finds : goal.returns-in_ok-pass_entry-clause-finds
returns-in_ok-pass_entry-clause-finds c = λ rules stand.
    let here = rw (sym c.from-at.ensures) at stand in
    let p = placed_by c.args.query.now.counted.now c.from-at.result rules here c.in_ok-count.count c.in_ok-count.ensures.count.0
    c.in_ok-sought.ensures.answer in
    let none = unmet c.args.query.now.counted.now (c.from-at.result + 4) c.in_ok-sought.sought.place c.in_ok-count.count c.args.query.now.key.now
    p.rest p.size p.reads p.run (λ text l has. c.in_ok-sought.ensures.sought.other c.if-sought.false text l has) in
    let one = unmet_visits c.args.query.now.key.now p.rest none (omega (arith, p.size, c.if-sought-count.true)) in
    let m = some_visits (visits c.args.query.now.case) (literal_visits c.args.query.now.key.now rules) (omega (arith, one, p.visits)) in
    let pass = c.in_ok-pass_entry.ensures.finds in
    record { answer = λ ok. rw (sym p.same, none) (pass.answer tt); need = λ enough. tt; most = omega (arith, m, pass.most) }

pub returns-else-sought-count-clause-finds : goal.returns-else-sought-count-clause-finds
returns-else-sought-count-clause-finds c = λ rules stand.
    let here = rw (sym c.from-at.ensures) at stand in
    let p = placed_by c.args.query.now.counted.now c.from-at.result rules here c.in_ok-count.count c.in_ok-count.ensures.count.0
    c.in_ok-sought.ensures.answer in
    let none = unmet c.args.query.now.counted.now (c.from-at.result + 4) c.in_ok-sought.sought.place c.in_ok-count.count c.args.query.now.key.now
    p.rest p.size p.reads p.run (λ text l has. c.in_ok-sought.ensures.sought.other c.if-sought.false text l has) in
    record {
      answer = λ ok. rw (sym p.same, none) (offers_none c.args.query.now.counted.now c.args.progress.now.hits);
      need = λ enough. tt;
      most = omega arith;
    }

pub returns-in_ok-pass_entry-clause-searches : goal.returns-in_ok-pass_entry-clause-searches
returns-in_ok-pass_entry-clause-searches c =
    let pass = searches_within (none_within (list_part c.args.query.now.counted.now c.args.at)) c.in_ok-pass_entry.ensures.searches in
    record { fault = tt; asked = search rules; few = search rules; added = pass.added; cost = search rules }
