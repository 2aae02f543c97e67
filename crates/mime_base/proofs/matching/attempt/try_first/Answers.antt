use Rattle.std.proofs.Common.{◌≡◌, ap, sym, arith, ℕ, ◌<◌, ◌==◌, false}
use Rattle.std.proofs.lemmas.Bool.{eqb-true}
use Rattle.std.proofs.lemmas.Bool.Decides.{nat_tests}
use Rattle.std.proofs.lemmas.List.{nil_from_length, length-map}
use Rattle.mime_base.specs.Matching.Folding.{compared, compared_byte}
use Rattle.mime_base.proofs.MatchingLemmas.Places.{none-left, star-next, taker-next, taken, not_taken}
use Rattle.mime_base.proofs.MatchingLemmas.Ends.{no_end-left}
use Rattle.mime_base.proofs.matching.attempt.try_first.Goals as goal
use Rattle.mime_base.proofs.matching.attempt.try_first.Goals.{then-is_empty, else-is_empty}

positive : (n : ℕ) → (n == 0) ≡ false → 0 < n
positive n h = grind (arith, nat_tests)

pub returns-in_default-clause-step : goal.returns-in_default-clause-step
returns-in_default-clause-step c =
    let none = none-left c.args.cased c.args.pattern.now c.in_default.ensures.cases in
    elim c.if-is_empty.branch [
      | then-is_empty w ↦ (let over = nil_from_length c.args.name.now (eqb-true _ _ (sym w.if-is_empty.ensures)) in
          rw w.halt-is (none, ap (compared c.args.cased) over))
      | else-is_empty w ↦ (let some = positive _ (sym w.if-is_empty.ensures) in
          rw w.halt-is (none, rw (length-map c.args.name.now (compared_byte c.args.cased)) some))
    ]

pub returns-then-first-eq42-clause-step : goal.returns-then-first-eq42-clause-step
returns-then-first-eq42-clause-step c =
    star-next c.args.cased _ _ _ c.in-Some.ensures.cases.0 c.if-first-eq42.true

pub returns-in_default-split_first-clause-step : goal.returns-in_default-split_first-clause-step
returns-in_default-split_first-clause-step c = (
  taker-next c.args.cased _ _ _ c.in-Some.ensures.cases.0 c.if-first-eq42.false,
  ap (compared c.args.cased) (nil_from_length c.args.name.now (omega (arith, c.in_default-split_first.ensures.cases))),
)

pub returns-in-Some-after_admitting-clause-step :
    goal.returns-in-Some-after_admitting-clause-step
returns-in-Some-after_admitting-clause-step c =
    taken c.args.cased _ _ _ c.in-Some.ensures.cases.0 c.if-first-eq42.false _ _ _ c.in-Some-split_first.ensures.cases.0
    _ _ c.as_compared.ensures c.as_compared-2.ensures
    c.in-Some-after_admitting.ensures.admits _ c.in-Some-after_admitting.ensures.after

pub returns-in-None-clause-step : goal.returns-in-None-clause-step
returns-in-None-clause-step c =
    not_taken c.args.cased _ _ _ c.in-Some.ensures.cases.0 c.if-first-eq42.false _ _ _ c.in-Some-split_first.ensures.cases.0
    _ _ c.as_compared.ensures c.as_compared-2.ensures c.in-None.ensures.admits

pub returns-in-Some-after_admitting-clause-endless :
    goal.returns-in-Some-after_admitting-clause-endless
returns-in-Some-after_admitting-clause-endless c =
    no_end-left c.args.endless _ _ _ _ _ c.in-Some.ensures.cases.0 c.in-Some-after_admitting.ensures.after c.requires
