use Rattle.std.proofs.Common.{ap, arith, inl, inr, length, refl}
use Rattle.std.specs.Prelude.{None, ⊤}
use Rattle.mime_lookup.specs.Affords.{Affords}
use Rattle.mime_lookup.specs.Cached.{cause_of}
use Rattle.mime_lookup.specs.Costs.{glob_cost, record_cost}
use Rattle.mime_lookup.specs.NameAlone.{SufficesForName}
use Rattle.mime_lookup.specs.Spent.{IsUsedUp}
use Rattle.mime_lookup.specs.StepFaults.{of_choice}
use Rattle.mime_lookup.proofs.CostLemmas.Costs.{costs_halves, costs_looks, costs_then, costs_wider}
use Rattle.mime_lookup.proofs.LookUpLemmas.NamesAlone.{affords_unseen, chosen_unseen, decides_unseen, suffices_unseen}
use Rattle.mime_lookup.proofs.LookUpLemmas.Wants.{magic_for_front, stops_limit, wants_front, wants_none}
use Rattle.mime_lookup.proofs.OrderLemmas.ByContents.{suffices_globs, used_unread}
use Rattle.mime_lookup.proofs.StopLemmas.StepStops.{passed_on, rest_fault, stops_then}
use Rattle.mime_lookup.proofs.cached.by_name_alone.ask.Goals as goal
use Rattle.mime_view.specs.declared.budget.Budget.{Budget}

pub returns-in_err-given-clause-stops : goal.returns-in_err-given-clause-stops
returns-in_err-given-clause-stops c =
    let fault = c.in_err-given.field-0.0 in
    passed_on _ fault c.from_residual.result c.from_residual.ensures.1
    (stops_then (cause_of fault) c.in_err-given.ensures.stops (λ used. used)
    (λ b enough. (enough.0.1.0, omega (arith, enough.1.records))) (λ b enough none. none))

pub returns-in_err-given-clause-fault : goal.returns-in_err-given-clause-fault
returns-in_err-given-clause-fault c =
    passed_on _ c.in_err-given.field-0.0 c.from_residual.result c.from_residual.ensures.1
    (inr (of_choice c.by_name.new.spending.budget (inl c.in_err-given.ensures.fault)))

pub returns-in_err-given-clause-cost : goal.returns-in_err-given-clause-cost
returns-in_err-given-clause-cost c =
    costs_wider _ 1 _ c.by_name.ensures.costs.cost.alone (omega arith) (omega arith) (omega arith)

pub returns-in-Decided-clause-answers : goal.returns-in-Decided-clause-answers
returns-in-Decided-clause-answers c =
    let name = c.args.question.now.name.now in
    let gives = rw c.in-Decided.is at c.in_ok-given.ensures.gives in
    record {
      chosen = λ b enough host. (gives b (suffices_globs c.args.indexed.now name ⊤ b c.args.question.now.order enough)).1 None host;
      allowed = inl (rw c.in-Decided.is at c.in_ok-given.ensures.texts);
      wants = wants_none c.args.indexed.now name c.args.question.now.order (λ b globs. (gives b globs).0);
    }

pub returns-in-Decided-clause-near : goal.returns-in-Decided-clause-near
returns-in-Decided-clause-near c b globs decide =
    omega (arith, (rw c.in-Decided.is at c.in_ok-given.ensures.costs).near b globs)

pub returns-in-Decided-clause-cost : goal.returns-in-Decided-clause-cost
returns-in-Decided-clause-cost c =
    costs_wider _ 1 _ c.in_ok-given.ensures.costs.cost.alone (omega arith) (omega arith) (omega arith)

pub returns-in_err-wanted-in-Left-clause-stops : goal.returns-in_err-wanted-in-Left-clause-stops
returns-in_err-wanted-in-Left-clause-stops c =
    let name = c.args.question.now.name.now in
    let stop = c.in_err-wanted-in-Left in
    let gives = rw c.in-Left.is at c.in_ok-given.ensures.gives in
    passed_on _ stop.field-0.0 c.from_residual-in_err-wanted-in-Left.result c.from_residual-in_err-wanted-in-Left.ensures.1
    (stops_limit c.args.indexed.now name c.args.question.now.order stop.field-0.0
    (IsUsedUp c.args.indexed.now ⊤ c.args.spending.now.budget c.front_limit.new.spending.budget)
    (λ b. SufficesForName c.args.indexed.now name c.args.question.now.order b × Affords b c.args.spending.now.budget)
    stop.ensures.fault
    (λ b enough.
    stop.ensures.need b
    (magic_for_front c.args.indexed.now name c.args.question.now.order b (gives b enough.0.1.0).0 enough.0.1.1)))

pub returns-in_err-wanted-in-Left-clause-fault : goal.returns-in_err-wanted-in-Left-clause-fault
returns-in_err-wanted-in-Left-clause-fault c =
    let stop = c.in_err-wanted-in-Left in
    passed_on _ stop.field-0.0 c.from_residual-in_err-wanted-in-Left.result c.from_residual-in_err-wanted-in-Left.ensures.1
    (inl stop.ensures.fault)

pub returns-in_err-wanted-in-Left-clause-cost : goal.returns-in_err-wanted-in-Left-clause-cost
returns-in_err-wanted-in-Left-clause-cost c =
    let name = length c.args.question.now.name.now in
    let named = costs_wider (record_cost name) 1 (glob_cost name) c.in_ok-given.ensures.costs.cost.alone
    (omega arith) (omega arith) (omega arith) in
    costs_then _ named (costs_looks _ _ c.front_limit.ensures.cost) (omega arith)

pub returns-in_err-kind-in-Left-clause-stops : goal.returns-in_err-kind-in-Left-clause-stops
returns-in_err-kind-in-Left-clause-stops c =
    let name = c.args.question.now.name.now in
    let stop = c.in_err-kind-in-Left in
    let gives = rw c.in-Left.is at c.in_ok-given.ensures.gives in
    let costs = rw c.in-Left.is at c.in_ok-given.ensures.costs in
    let same = c.front_limit.ensures.cost.budget in
    passed_on _ stop.field-0.0 c.from_residual-in_err-kind-in-Left.result c.from_residual-in_err-kind-in-Left.ensures.1
    (stops_then (cause_of stop.field-0.0) stop.ensures.stops
    (used_unread c.args.indexed.now c.args.spending.now.budget c.front_limit.new.spending.budget c.by_content.new.spending.budget refl)
    (λ b enough.
    affords_unseen c.args.indexed.now name c.args.question.now.order c.in-Left.candidates b (gives b enough.0.1.0)
    c.args.spending.now.budget c.front_limit.new.spending.budget
    (omega (arith, costs.cost.alone.untouched refl, ap (λ (budget : Budget). budget.value_bytes) same))
    (omega (arith, costs.takes b enough.0.1.0, ap (λ (budget : Budget). budget.records) same)) enough)
    (λ b enough none. none))

pub returns-in_err-kind-in-Left-clause-fault : goal.returns-in_err-kind-in-Left-clause-fault
returns-in_err-kind-in-Left-clause-fault c =
    let stop = c.in_err-kind-in-Left in
    passed_on _ stop.field-0.0 c.from_residual-in_err-kind-in-Left.result c.from_residual-in_err-kind-in-Left.ensures.1
    (inr (rest_fault c.args.indexed.now c.args.question.now.name.now None c.args.question.now.host
    c.by_content.new.spending.budget stop.field-0.0 (λ _. refl) stop.ensures.fault))

pub returns-in_err-kind-in-Left-clause-cost : goal.returns-in_err-kind-in-Left-clause-cost
returns-in_err-kind-in-Left-clause-cost c =
    costs_halves ((rw c.in-Left.is at c.in_ok-given.ensures.costs).cost) c.front_limit.ensures.cost c.in_err-kind-in-Left.ensures.cost

pub returns-in_ok-kind-in-Left-clause-answers : goal.returns-in_ok-kind-in-Left-clause-answers
returns-in_ok-kind-in-Left-clause-answers c =
    let cache = c.args.indexed.now in
    let name = c.args.question.now.name.now in
    let order = c.args.question.now.order in
    let gives = rw c.in-Left.is at c.in_ok-given.ensures.gives in
    let wanted = c.in_ok-wanted-in-Left.ensures in
    let kind = c.in_ok-kind-in-Left in
    record {
      chosen = λ b enough host.
          let given = gives b (suffices_globs cache name ⊤ b order enough) in
          chosen_unseen cache name order c.in-Left.candidates b given kind.kind.now c.args.question.now.host host
          (kind.ensures.chosen b (suffices_unseen cache name order c.in-Left.candidates b given enough) given.2);
      allowed = kind.ensures.kind;
      wants = wants_front cache name order c.in_ok-wanted-in-Left.wanted (λ b globs. (gives b globs).0) wanted.stated wanted.spelled;
    }

pub returns-in_ok-kind-in-Left-clause-near : goal.returns-in_ok-kind-in-Left-clause-near
returns-in_ok-kind-in-Left-clause-near c b globs decide =
    let given = (rw c.in-Left.is at c.in_ok-given.ensures.gives) b globs in
    let costs = rw c.in-Left.is at c.in_ok-given.ensures.costs in
    let looks = c.front_limit.ensures.cost.looks in
    let kind = c.in_ok-kind-in-Left.ensures.near b globs given.2
    (decides_unseen c.args.indexed.now c.args.question.now.name.now c.args.question.now.order c.in-Left.candidates b given decide) in
    rw given.0 (omega (arith, costs.near b globs, looks.most_nodes, kind))

pub returns-in_ok-kind-in-Left-clause-cost : goal.returns-in_ok-kind-in-Left-clause-cost
returns-in_ok-kind-in-Left-clause-cost c =
    costs_halves ((rw c.in-Left.is at c.in_ok-given.ensures.costs).cost) c.front_limit.ensures.cost c.in_ok-kind-in-Left.ensures.cost
