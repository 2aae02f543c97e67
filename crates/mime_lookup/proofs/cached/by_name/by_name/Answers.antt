use Rattle.std.proofs.Common.{inl, arith}
use Rattle.mime_lookup.proofs.OrderLemmas.ByNames.{costs_passed, gives_all, gives_every, gives_nothing, gives_one, gives_one_of_all, gives_others}
use Rattle.mime_lookup.proofs.StopLemmas.StepStops.{passed_on, stops_for}
use Rattle.mime_lookup.proofs.CostLemmas.UsedUp.{globs_spent}
use Rattle.mime_lookup.proofs.cached.by_name.by_name.Goals as goal

pub returns-in_err-types-in-GlobsFirst-clause-stops : goal.returns-in_err-types-in-GlobsFirst-clause-stops
returns-in_err-types-in-GlobsFirst-clause-stops c =
    let types = c.in_err-types-in-GlobsFirst in
    let left = c.types_of.new.spending.budget in
    passed_on _ types.field-0.0 c.from_residual.result c.from_residual.ensures.1
    (stops_for _ _ _ types.field-0.0
    (λ same. inl (globs_spent c.args.indexed.now c.args.question.now.name.now left types.field-0.0 types.ensures.fault same))
    (λ b enough. (types.ensures.gives b enough.0).given.need enough.1))

pub returns-in_err-types-in-GlobsFirst-clause-costs : goal.returns-in_err-types-in-GlobsFirst-clause-costs
returns-in_err-types-in-GlobsFirst-clause-costs c =
    let types = c.in_err-types-in-GlobsFirst in
    costs_passed c.args.indexed.now c.args.question.now.name.now types.field-0.0 c.from_residual.result c.from_residual.ensures.1 (record {
      takes = λ b globs. omega (arith, (types.ensures.gives b globs).given.most);
      near = λ b globs. tt;
      cost = types.ensures.cost;
    })

pub returns-in-One-clause-gives : goal.returns-in-One-clause-gives
returns-in-One-clause-gives c b globs =
    let is = rw c.in-One.is at (c.in_ok-types-in-GlobsFirst.ensures.gives b globs).given.answer in
    gives_one b c.args.question.now.name.now c.args.question.now.order c.in-One.kind c.in-GlobsFirst.is is.0 is.1

pub returns-in-One-clause-texts : goal.returns-in-One-clause-texts
returns-in-One-clause-texts c = rw c.in-One.is at c.in_ok-types-in-GlobsFirst.ensures.text

pub returns-in-One-clause-costs : goal.returns-in-One-clause-costs
returns-in-One-clause-costs c =
    let types = c.in_ok-types-in-GlobsFirst.ensures in
    record {
      takes = λ b globs. omega (arith, (types.gives b globs).given.most);
      near = λ b globs. omega (arith, (types.gives b globs).near);
      cost = rw c.in-One.is at types.cost;
    }

pub returns-in-Others-clause-gives : goal.returns-in-Others-clause-gives
returns-in-Others-clause-gives c b globs =
    let is = rw c.in-Others.is at (c.in_ok-types-in-GlobsFirst.ensures.gives b globs).given.answer in
    gives_others b c.args.question.now.name.now c.args.question.now.order c.in-Others.kinds c.in-GlobsFirst.is is.0 is.1

pub returns-in-Others-clause-texts : goal.returns-in-Others-clause-texts
returns-in-Others-clause-texts c = (rw c.in-Others.is at c.in_ok-types-in-GlobsFirst.ensures.text).0

pub returns-in-Others-clause-costs : goal.returns-in-Others-clause-costs
returns-in-Others-clause-costs c =
    let types = c.in_ok-types-in-GlobsFirst.ensures in
    record {
      takes = λ b globs. omega (arith, (types.gives b globs).given.most);
      near = λ b globs. omega (arith, (types.gives b globs).near);
      cost = rw c.in-Others.is at types.cost;
    }

pub returns-in_err-types-in-AllGlobs-clause-stops : goal.returns-in_err-types-in-AllGlobs-clause-stops
returns-in_err-types-in-AllGlobs-clause-stops c =
    let types = c.in_err-types-in-AllGlobs in
    let left = c.types_of-in-AllGlobs.new.spending.budget in
    passed_on _ types.field-0.0 c.from_residual-in_err-types-in-AllGlobs.result c.from_residual-in_err-types-in-AllGlobs.ensures.1
    (stops_for _ _ _ types.field-0.0
    (λ same. inl (globs_spent c.args.indexed.now c.args.question.now.name.now left types.field-0.0 types.ensures.fault same))
    (λ b enough. (types.ensures.gives b enough.0).given.need enough.1))

pub returns-in_err-types-in-AllGlobs-clause-costs : goal.returns-in_err-types-in-AllGlobs-clause-costs
returns-in_err-types-in-AllGlobs-clause-costs c =
    let types = c.in_err-types-in-AllGlobs in
    costs_passed c.args.indexed.now c.args.question.now.name.now types.field-0.0 c.from_residual-in_err-types-in-AllGlobs.result c.from_residual-in_err-types-in-AllGlobs.ensures.1 (record {
      takes = λ b globs. omega (arith, (types.ensures.gives b globs).given.most);
      near = λ b globs. tt;
      cost = types.ensures.cost;
    })

pub returns-in-One-types-clause-gives : goal.returns-in-One-types-clause-gives
returns-in-One-types-clause-gives c b globs =
    let is = rw c.in-One-types.is at (c.in_ok-types-in-AllGlobs.ensures.gives b globs).given.answer in
    gives_one_of_all b c.args.question.now.name.now c.args.question.now.order c.in-One-types.kind globs.ranks c.in-AllGlobs.is is.0 is.1

pub returns-in-One-types-clause-texts : goal.returns-in-One-types-clause-texts
returns-in-One-types-clause-texts c = rw c.in-One-types.is at c.in_ok-types-in-AllGlobs.ensures.text

pub returns-in-One-types-clause-costs : goal.returns-in-One-types-clause-costs
returns-in-One-types-clause-costs c =
    let types = c.in_ok-types-in-AllGlobs.ensures in
    record {
      takes = λ b globs. omega (arith, (types.gives b globs).given.most);
      near = λ b globs. omega (arith, (types.gives b globs).near);
      cost = rw c.in-One-types.is at types.cost;
    }

pub returns-in-Others-types-clause-gives : goal.returns-in-Others-types-clause-gives
returns-in-Others-types-clause-gives c b globs =
    let is = rw c.in-Others-types.is at (c.in_ok-types-in-AllGlobs.ensures.gives b globs).given.answer in
    gives_every b c.args.question.now.name.now c.args.question.now.order c.in-Others-types.kinds c.in-Others-types.asked c.in-AllGlobs.is is.0 is.1 is.2

pub returns-in-Others-types-clause-texts : goal.returns-in-Others-types-clause-texts
returns-in-Others-types-clause-texts c = rw c.in-Others-types.is at c.in_ok-types-in-AllGlobs.ensures.text

pub returns-in-Others-types-clause-costs : goal.returns-in-Others-types-clause-costs
returns-in-Others-types-clause-costs c =
    let types = c.in_ok-types-in-AllGlobs.ensures in
    record {
      takes = λ b globs. omega (arith, (types.gives b globs).given.most);
      near = λ b globs. omega (arith, (types.gives b globs).near);
      cost = rw c.in-Others-types.is at types.cost;
    }

pub returns-in-MagicFirst-clause-gives : goal.returns-in-MagicFirst-clause-gives
returns-in-MagicFirst-clause-gives c b globs = gives_all b c.args.question.now.name.now c.args.question.now.order c.in-MagicFirst.is

pub returns-in-ContentOnly-clause-gives : goal.returns-in-ContentOnly-clause-gives
returns-in-ContentOnly-clause-gives c b globs = gives_nothing b c.args.question.now.name.now c.args.question.now.order c.in-ContentOnly.is
