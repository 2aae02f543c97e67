use Rattle.std.proofs.Common.{◌≡◌, ◌∙◌, ◌+◌, None, ap, arith, inl, length, option_map, refl, sym, true≢false}
use Rattle.mime_lookup.specs.Cached.{cause_of}
use Rattle.mime_lookup.specs.Content.{known_content}
use Rattle.mime_lookup.specs.Costs.{glob_cost, record_cost}
use Rattle.mime_lookup.specs.StepFaults.{of_choice, of_head}
use Rattle.mime_lookup.proofs.OrderLemmas.ByContents.{suffices_globs, used_unread}
use Rattle.mime_lookup.proofs.CostLemmas.Costs.{costs_halves, costs_looks, costs_then, costs_wider}
use Rattle.mime_lookup.proofs.LookUpLemmas.LookUps.{chosen_anyway, chosen_front, content_stands, decides, front_stands, no_content, stops_front}
use Rattle.mime_lookup.proofs.ContentLemmas.ReadHalves.{reads_chosen, reads_decided, reads_early, reads_late, reads_refused}
use Rattle.mime_lookup.proofs.StopLemmas.StepStops.{passed_on, rest_fault, stop_of_fault, stop_weaker, stops_then}
use Rattle.mime_lookup.proofs.cached.find.Goals as goal
use Rattle.mime_view.specs.declared.budget.Budget.{Budget}
use Rattle.mime_view.specs.declared.spending.Spending.{Spending}

pub returns-in_err-given-clause-stops : goal.returns-in_err-given-clause-stops
returns-in_err-given-clause-stops g c =
    let fault = c.in_err-given.field-0.0 in
    passed_on _ (cause_of fault) c.from_residual.result c.from_residual.ensures.1
    (stops_then (cause_of fault) c.in_err-given.ensures.stops
    (used_unread c.args.indexed.now c.args.spending.now.budget c.args.spending.now.budget c.by_name.new.spending.budget tt)
    (λ b enough. (suffices_globs c.args.indexed.now c.args.question.now.name.now (c.args.content.now ≡ None) b c.args.question.now.order enough.0, omega (arith, enough.1.records)))
    (λ b enough none. absurd none))

pub returns-in_err-given-clause-fault : goal.returns-in_err-given-clause-fault
returns-in_err-given-clause-fault g c =
    let fault = c.in_err-given.field-0.0 in
    passed_on _ (cause_of fault) c.from_residual.result c.from_residual.ensures.1
    (stop_of_fault _ fault (of_choice c.by_name.new.spending.budget (inl c.in_err-given.ensures.fault)))

pub returns-in_err-given-clause-reads : goal.returns-in_err-given-clause-reads
returns-in_err-given-clause-reads g c =
    reads_early g.R.Read.remaining g.R.Content.tally g.R.Content.health c.args.indexed.now c.args.question.now.name.now c.args.question.now.order
    c.args.content.now c.args.read.now c.in_err-given.field-0.0 c.from_residual.result c.from_residual.ensures.1 c.requires.none

pub returns-in_err-given-clause-cost : goal.returns-in_err-given-clause-cost
returns-in_err-given-clause-cost g c =
    costs_wider _ (c.args.read.now + 1) _ c.by_name.ensures.costs.cost.alone (omega arith) (omega arith) (omega arith)

pub returns-in-Decided-clause-answers : goal.returns-in-Decided-clause-answers
returns-in-Decided-clause-answers g c = record {
  chosen = λ b enough.
      let globs = suffices_globs c.args.indexed.now c.args.question.now.name.now (c.args.content.now ≡ None) b c.args.question.now.order enough in
      chosen_anyway b c.args.question.now.name.now c.args.question.now.host c.args.question.now.order c.in-Decided.kind
      (known_content g.R.Read.remaining c.args.content.now) (rw c.in-Decided.is at (c.in_ok-given.ensures.gives b globs));
  by_globs = λ b globs suffice any. (rw c.in-Decided.is at (c.in_ok-given.ensures.gives b globs)).1 any c.args.question.now.host;
  allowed = inl (rw c.in-Decided.is at c.in_ok-given.ensures.texts);
}

pub returns-in-Decided-clause-reads : goal.returns-in-Decided-clause-reads
returns-in-Decided-clause-reads g c =
    reads_decided g.R.Read.remaining g.R.Content.tally g.R.Content.health c.args.indexed.now c.args.question.now.name.now c.args.question.now.order
    c.args.content.now c.args.read.now c.in-Decided.kind c.requires.none (rw c.in-Decided.is at c.in_ok-given.ensures.gives)

pub returns-in-Decided-clause-near : goal.returns-in-Decided-clause-near
returns-in-Decided-clause-near g c b globs decide =
    omega (arith, (rw c.in-Decided.is at c.in_ok-given.ensures.costs).near b globs)

pub returns-in-Decided-clause-cost : goal.returns-in-Decided-clause-cost
returns-in-Decided-clause-cost g c =
    costs_wider _ (c.args.read.now + 1) _ c.in_ok-given.ensures.costs.cost.alone (omega arith) (omega arith) (omega arith)

pub returns-in_err-front-in-Left-clause-stops : goal.returns-in_err-front-in-Left-clause-stops
returns-in_err-front-in-Left-clause-stops g c =
    let stop = c.in_err-front-in-Left in
    let gives = rw c.in-Left.is at c.in_ok-given.ensures.gives in
    passed_on _ stop.field-0.0 c.from_residual-in_err-front-in-Left.result c.from_residual-in_err-front-in-Left.ensures.1
    (stops_then stop.field-0.0 stop.ensures.stops (λ used. absurd used) (λ b enough.
    let globs = suffices_globs c.args.indexed.now c.args.question.now.name.now (c.args.content.now ≡ None) b c.args.question.now.order enough.0 in
    content_stands g.R.Read.remaining c.args.indexed.now c.args.question.now.name.now c.args.content.now c.args.question.now.order c.in-Left.candidates b (gives b globs)
    enough.0) (λ b enough there decide.
    let globs = suffices_globs c.args.indexed.now c.args.question.now.name.now (c.args.content.now ≡ None) b c.args.question.now.order enough.0 in
    there (no_content g.R.Read.remaining c.args.indexed.now c.args.question.now.name.now c.args.content.now c.args.question.now.order c.in-Left.candidates b
    (gives b globs) decide)))

pub returns-in_err-front-in-Left-clause-fault : goal.returns-in_err-front-in-Left-clause-fault
returns-in_err-front-in-Left-clause-fault g c =
    let stop = c.in_err-front-in-Left in
    passed_on _ stop.field-0.0 c.from_residual-in_err-front-in-Left.result c.from_residual-in_err-front-in-Left.ensures.1
    (stop_weaker stop.field-0.0 (λ e head. of_head head.0 head.1) stop.ensures.fault)

pub returns-in_err-front-in-Left-clause-reads : goal.returns-in_err-front-in-Left-clause-reads
returns-in_err-front-in-Left-clause-reads g c =
    let stop = c.in_err-front-in-Left in
    reads_refused g.R.Read.remaining g.R.Content.tally g.R.Content.health c.args.indexed.now c.args.question.now.name.now c.args.question.now.order
    c.in-Left.candidates (rw c.in-Left.is at c.in_ok-given.ensures.gives) c.args.content.now c.read_content.new.content
    c.read_content.new.read stop.field-0.0 c.from_residual-in_err-front-in-Left.result
    c.from_residual-in_err-front-in-Left.ensures.1 stop.ensures.takes

pub returns-in_err-front-in-Left-clause-cost : goal.returns-in_err-front-in-Left-clause-cost
returns-in_err-front-in-Left-clause-cost g c =
    let name = length c.args.question.now.name.now in
    let named = costs_wider (record_cost name) (c.read_content.new.read + 1) (glob_cost name) c.in_ok-given.ensures.costs.cost.alone
    (omega arith) (omega arith) (omega arith) in
    costs_then _ named (costs_looks _ _ c.read_content.ensures.costs.looks) (omega arith)

pub returns-in_err-kind-in-Left-clause-stops : goal.returns-in_err-kind-in-Left-clause-stops
returns-in_err-kind-in-Left-clause-stops g c =
    let stop = c.in_err-kind-in-Left in
    let costs = rw c.in-Left.is at c.in_ok-given.ensures.costs in
    let reads = c.in_ok-front-in-Left.ensures in
    passed_on _ (cause_of stop.field-0.0) c.from_residual-in_err-kind-in-Left.result c.from_residual-in_err-kind-in-Left.ensures.1
    (stops_front g.R.Read.remaining c.args.indexed.now c.args.question.now.name.now c.args.content.now c.args.question.now.order c.in-Left.candidates
    (rw c.in-Left.is at c.in_ok-given.ensures.gives) c.read_content.new.read
    (option_map (λ bytes. bytes.items) c.in_ok-front-in-Left.front) reads.front c.args.spending.now.budget c.read_content.new.spending.budget
    c.by_content.new.spending.budget (cause_of stop.field-0.0)
    (omega (arith, costs.cost.alone.untouched refl, ap (λ (budget : Budget). budget.value_bytes) reads.costs.looks.budget))
    (omega (arith, costs.cost.alone.records, ap (λ (budget : Budget). budget.records) reads.costs.looks.budget))
    (λ b globs. omega (arith, costs.takes b globs, ap (λ (budget : Budget). budget.records) reads.costs.looks.budget))
    (rw c.as_deref-front.ensures.value at stop.ensures.stops))

pub returns-in_err-kind-in-Left-clause-fault : goal.returns-in_err-kind-in-Left-clause-fault
returns-in_err-kind-in-Left-clause-fault g c =
    let stop = c.in_err-kind-in-Left in
    let front = option_map (λ bytes. bytes.items) c.in_ok-front-in-Left.front in
    passed_on _ (cause_of stop.field-0.0) c.from_residual-in_err-kind-in-Left.result c.from_residual-in_err-kind-in-Left.ensures.1
    (stop_of_fault _ stop.field-0.0 (rest_fault c.args.indexed.now c.args.question.now.name.now front c.args.question.now.host
    c.by_content.new.spending.budget stop.field-0.0 c.in_ok-front-in-Left.ensures.front.absent
    (rw c.as_deref-front.ensures.value at stop.ensures.fault)))

pub returns-in_err-kind-in-Left-clause-reads : goal.returns-in_err-kind-in-Left-clause-reads
returns-in_err-kind-in-Left-clause-reads g c =
    reads_late g.R.Read.remaining g.R.Content.tally g.R.Content.health c.args.indexed.now c.args.question.now.name.now c.args.question.now.order
    c.in-Left.candidates (rw c.in-Left.is at c.in_ok-given.ensures.gives) c.args.content.now c.read_content.new.content
    c.read_content.new.read _ c.in_err-kind-in-Left.field-0.0
    c.from_residual-in_err-kind-in-Left.result c.from_residual-in_err-kind-in-Left.ensures.1
    c.in_ok-front-in-Left.ensures.takes

pub returns-in_err-kind-in-Left-clause-cost : goal.returns-in_err-kind-in-Left-clause-cost
returns-in_err-kind-in-Left-clause-cost g c =
    costs_halves ((rw c.in-Left.is at c.in_ok-given.ensures.costs).cost) c.in_ok-front-in-Left.ensures.costs.looks
    (rw (← c.in_ok-front-in-Left.ensures.front.size) at (rw c.as_deref-front.ensures.value at c.in_err-kind-in-Left.ensures.cost))

pub returns-in_ok-kind-in-Left-clause-answers : goal.returns-in_ok-kind-in-Left-clause-answers
returns-in_ok-kind-in-Left-clause-answers g c =
    let gives = rw c.in-Left.is at c.in_ok-given.ensures.gives in
    let reads = c.in_ok-front-in-Left.ensures in
    let kind = c.in_ok-kind-in-Left in
    let front = option_map (λ bytes. bytes.items) c.in_ok-front-in-Left.front in
    record {
      chosen = λ b enough.
          let given = gives b (suffices_globs c.args.indexed.now c.args.question.now.name.now (c.args.content.now ≡ None) b c.args.question.now.order enough) in
          chosen_front g.R.Read.remaining c.args.indexed.now c.args.question.now.name.now c.args.content.now c.args.question.now.order c.in-Left.candidates b given
          c.read_content.new.read front reads.front c.args.question.now.host kind.kind.now enough
          ((rw c.as_deref-front.ensures.value at kind.ensures.chosen) b
          (front_stands g.R.Read.remaining c.args.indexed.now c.args.question.now.name.now c.args.content.now c.args.question.now.order c.in-Left.candidates b given
          c.read_content.new.read front reads.front enough) given.2);
      by_globs = λ b globs suffice any. absurd (true≢false (sym suffice ∙ (gives b globs).0));
      allowed = kind.ensures.kind;
    }

pub returns-in_ok-kind-in-Left-clause-reads : goal.returns-in_ok-kind-in-Left-clause-reads
returns-in_ok-kind-in-Left-clause-reads g c =
    let reads = c.in_ok-front-in-Left.ensures in
    reads_chosen g.R.Read.remaining g.R.Content.tally g.R.Content.health c.args.indexed.now c.args.question.now.name.now c.args.question.now.order
    c.in-Left.candidates (rw c.in-Left.is at c.in_ok-given.ensures.gives) c.args.content.now c.read_content.new.content
    c.read_content.new.read _ (option_map (λ bytes. bytes.items) c.in_ok-front-in-Left.front) c.in_ok-kind-in-Left.kind reads.takes
    reads.front

pub returns-in_ok-kind-in-Left-clause-near : goal.returns-in_ok-kind-in-Left-clause-near
returns-in_ok-kind-in-Left-clause-near g c b globs decide =
    let given = (rw c.in-Left.is at c.in_ok-given.ensures.gives) b globs in
    let costs = rw c.in-Left.is at c.in_ok-given.ensures.costs in
    let reads = c.in_ok-front-in-Left.ensures in
    let none = no_content g.R.Read.remaining c.args.indexed.now c.args.question.now.name.now c.args.content.now c.args.question.now.order c.in-Left.candidates b given
    decide in
    let kind = rw c.as_deref-front.ensures.value at c.in_ok-kind-in-Left.ensures.near in
    omega (
      arith,
      costs.near b globs,
      ap (λ (spending : Spending). spending.meter.nodes) (reads.costs.nothing none),
      kind b globs given.2 (decides g.R.Read.remaining c.args.indexed.now c.args.question.now.name.now c.args.content.now c.args.question.now.order c.in-Left.candidates b
          given c.read_content.new.read (option_map (λ bytes. bytes.items) c.in_ok-front-in-Left.front) reads.front decide),
    )

pub returns-in_ok-kind-in-Left-clause-cost : goal.returns-in_ok-kind-in-Left-clause-cost
returns-in_ok-kind-in-Left-clause-cost g c =
    costs_halves ((rw c.in-Left.is at c.in_ok-given.ensures.costs).cost) c.in_ok-front-in-Left.ensures.costs.looks
    (rw (← c.in_ok-front-in-Left.ensures.front.size) at (rw c.as_deref-front.ensures.value at c.in_ok-kind-in-Left.ensures.cost))
