-- Where the globs are asked after magic, or not at all.
use Rattle.std.proofs.Common.{◌≡◌, ◌∙◌, None, Some, inl, inr, ap, length, sym, arith}
use Rattle.mime_lookup.specs.Cached.{cause_of, plain_finding}
use Rattle.mime_lookup.specs.Halves.{bytes_of}
use Rattle.mime_lookup.specs.declared.cached.by_name.Candidates.TheVariants.{Ignored, Unasked}
use Rattle.mime_lookup.specs.declared.order.Order.TheVariants.{ContentOnly, MagicFirst}
use Rattle.mime_lookup.proofs.OrderLemmas.ByContents.{not_high, suffices_content, suffices_globs, suffices_last, used_unread}
use Rattle.mime_lookup.proofs.CostLemmas.Costs.{costs_looks, costs_sniffed}
use Rattle.mime_lookup.proofs.OrderLemmas.ContentOnly.{by_finding}
use Rattle.mime_lookup.proofs.OrderLemmas.MagicFirst.{by_high_magic, by_low_magic}
use Rattle.mime_lookup.proofs.CostLemmas.Near.{decide_unavailable, decide_without}
use Rattle.mime_lookup.proofs.StopLemmas.StepStops.{passed_on, stops_for, stops_then}
use Rattle.mime_lookup.proofs.CostLemmas.UsedUp.{choice_spent}
use Rattle.mime_view.specs.declared.spending.Spending.{Spending}
use Rattle.mime_lookup.proofs.cached.by_content.by_content.Goals as goal

-- the alias step after magic stops: the reason
pub returns-in_err-kind-in-Unasked-clause-stops : goal.returns-in_err-kind-in-Unasked-clause-stops
returns-in_err-kind-in-Unasked-clause-stops c =
    let step = c.in_err-kind-in-Unasked in
    let left = c.unalias.new.spending.budget in
    rw c.in-Unasked.is (passed_on _ step.field-0.0 c.from_residual-in_err-kind-in-Unasked.result
    c.from_residual-in_err-kind-in-Unasked.ensures.1
    (stops_for _ _ _ step.field-0.0
    (λ same. inl (choice_spent c.args.indexed.now left step.field-0.0 (inl step.ensures.fault) same)) (λ b enough.
    let globs = suffices_globs c.args.indexed.now c.args.question.now.name.now (bytes_of c.args.front ≡ None) b MagicFirst enough.0 in
    absurd (step.ensures.answer b globs.offsets globs.header globs.aliases))))

-- the alias step after magic stops: its cost
pub returns-in_err-kind-in-Unasked-clause-cost : goal.returns-in_err-kind-in-Unasked-clause-cost
returns-in_err-kind-in-Unasked-clause-cost c =
    costs_sniffed (length c.args.question.now.name.now) _ c.in_ok-finding.ensures.cost (costs_looks 256 0 c.unalias.ensures.cost) (omega arith)
    (omega arith)

-- magic is of high priority: the order gives this type
pub returns-then-is_high-clause-chosen : goal.returns-then-is_high-clause-chosen
returns-then-is_high-clause-chosen c =
    rw c.in-Unasked.is (λ b enough leaves.
    let globs = suffices_globs c.args.indexed.now c.args.question.now.name.now (bytes_of c.args.front ≡ None) b MagicFirst enough in
    by_high_magic b c.args.question.now.name.now c.args.question.now.host (plain_finding c.in_ok-finding.finding) (Some _) c.in_ok-kind-in-Unasked.kind.now
    (c.in_ok-finding.ensures.found b (suffices_content c.args.indexed.now c.args.question.now.name.now (bytes_of c.args.front ≡ None) b Unasked leaves enough))
    (c.in_ok-kind-in-Unasked.ensures.answer b globs.offsets globs.header globs.aliases) (sym c.is_high.ensures ∙ c.if-is_high.true))

-- magic is of high priority: the records where the globs decide
pub returns-then-is_high-clause-near : goal.returns-then-is_high-clause-near
returns-then-is_high-clause-near c =
    rw c.in-Unasked.is (λ b globs leaves decide.
    let none = (decide_without b c.args.question.now.name.now _ decide).0 in
    absurd (not_high b (bytes_of c.args.front) c.args.question.now.host (plain_finding c.in_ok-finding.finding)
    (c.in_ok-finding.ensures.found b (inr none)) none (sym c.is_high.ensures ∙ c.if-is_high.true)))

-- magic is of high priority: its cost
pub returns-then-is_high-clause-cost : goal.returns-then-is_high-clause-cost
returns-then-is_high-clause-cost c =
    costs_sniffed (length c.args.question.now.name.now) _ c.in_ok-finding.ensures.cost (costs_looks 256 0 c.unalias.ensures.cost) (omega arith)
    (omega arith)

-- the globs stop: the reason
pub returns-in_err-kind-in-Unasked-2-clause-stops : goal.returns-in_err-kind-in-Unasked-2-clause-stops
returns-in_err-kind-in-Unasked-2-clause-stops c =
    let globs_stop = c.in_err-kind-in-Unasked-2 in
    rw c.in-Unasked.is (passed_on _ globs_stop.field-0.0 c.from_residual-in_err-kind-in-Unasked-2.result
    c.from_residual-in_err-kind-in-Unasked-2.ensures.1
    (stops_then (cause_of globs_stop.field-0.0) globs_stop.ensures.stops
    (used_unread c.args.indexed.now c.args.spending.now.budget _ c.by_globs.new.spending.budget tt)
    (λ b enough.
    let content = suffices_content c.args.indexed.now c.args.question.now.name.now (bytes_of c.args.front ≡ None) b Unasked enough.1 enough.0 in (
      suffices_last c.args.indexed.now c.args.question.now.name.now (bytes_of c.args.front ≡ None) b enough.0,
      omega (arith, enough.2.records, c.in_ok-finding.ensures.takes b content),
    ))
    (λ b enough read. read)))

-- the globs stop: the fault
pub returns-in_err-kind-in-Unasked-2-clause-fault : goal.returns-in_err-kind-in-Unasked-2-clause-fault
returns-in_err-kind-in-Unasked-2-clause-fault c =
    let globs_stop = c.in_err-kind-in-Unasked-2 in
    passed_on _ globs_stop.field-0.0 c.from_residual-in_err-kind-in-Unasked-2.result
    c.from_residual-in_err-kind-in-Unasked-2.ensures.1 (inr globs_stop.ensures.fault)

-- the globs stop: its cost
pub returns-in_err-kind-in-Unasked-2-clause-cost : goal.returns-in_err-kind-in-Unasked-2-clause-cost
returns-in_err-kind-in-Unasked-2-clause-cost c =
    rw c.in-Unasked.is (costs_sniffed (length c.args.question.now.name.now) _ c.in_ok-finding.ensures.cost
    c.in_err-kind-in-Unasked-2.ensures.costs.cost (omega arith) (omega arith))

-- the globs give the type: the order gives this type
pub returns-in_ok-kind-in-Unasked-2-clause-chosen : goal.returns-in_ok-kind-in-Unasked-2-clause-chosen
returns-in_ok-kind-in-Unasked-2-clause-chosen c =
    rw c.in-Unasked.is (λ b enough leaves.
    by_low_magic b c.args.question.now.name.now c.args.question.now.host (plain_finding c.in_ok-finding.finding) (Some _)
    c.in_ok-kind-in-Unasked-2.kind.now
    (c.in_ok-finding.ensures.found b (suffices_content c.args.indexed.now c.args.question.now.name.now (bytes_of c.args.front ≡ None) b Unasked leaves enough))
    (sym c.is_high.ensures ∙ c.if-is_high.false)
    (c.in_ok-kind-in-Unasked-2.ensures.answers.chosen b (suffices_last c.args.indexed.now c.args.question.now.name.now (bytes_of c.args.front ≡ None) b enough)))

-- the globs give the type: the records where the globs decide
pub returns-in_ok-kind-in-Unasked-2-clause-near : goal.returns-in_ok-kind-in-Unasked-2-clause-near
returns-in_ok-kind-in-Unasked-2-clause-near c =
    rw c.in-Unasked.is (λ b globs leaves decide.
    let without = decide_without b c.args.question.now.name.now _ decide in
    omega (
      arith,
      c.in_ok-kind-in-Unasked-2.ensures.costs.near b globs without.1,
      ap (λ (spending : Spending). spending.meter.nodes) (c.in_ok-finding.ensures.nothing without.0),
    ))

-- the globs give the type: its cost
pub returns-in_ok-kind-in-Unasked-2-clause-cost : goal.returns-in_ok-kind-in-Unasked-2-clause-cost
returns-in_ok-kind-in-Unasked-2-clause-cost c =
    rw c.in-Unasked.is (costs_sniffed (length c.args.question.now.name.now) _ c.in_ok-finding.ensures.cost
    c.in_ok-kind-in-Unasked-2.ensures.costs.cost (omega arith) (omega arith))

-- the alias step of what was found stops: the reason
pub returns-in_err-kind-in-Ignored-clause-stops : goal.returns-in_err-kind-in-Ignored-clause-stops
returns-in_err-kind-in-Ignored-clause-stops c =
    let step = c.in_err-kind-in-Ignored in
    let left = c.unalias-in-Ignored.new.spending.budget in
    rw c.in-Ignored.is (passed_on _ step.field-0.0 c.from_residual-in_err-kind-in-Ignored.result
    c.from_residual-in_err-kind-in-Ignored.ensures.1
    (stops_for _ _ _ step.field-0.0
    (λ same. inl (choice_spent c.args.indexed.now left step.field-0.0 (inl step.ensures.fault) same)) (λ b enough.
    let globs = suffices_globs c.args.indexed.now c.args.question.now.name.now (bytes_of c.args.front ≡ None) b ContentOnly enough.0 in
    absurd (step.ensures.answer b globs.offsets globs.header globs.aliases))))

-- the alias step of what was found stops: its cost
pub returns-in_err-kind-in-Ignored-clause-cost : goal.returns-in_err-kind-in-Ignored-clause-cost
returns-in_err-kind-in-Ignored-clause-cost c =
    costs_sniffed (length c.args.question.now.name.now) _ c.in_ok-finding.ensures.cost (costs_looks 256 0 c.unalias-in-Ignored.ensures.cost)
    (omega arith) (omega arith)

-- what was found is the answer: the order gives this type
pub returns-in_ok-kind-in-Ignored-clause-chosen : goal.returns-in_ok-kind-in-Ignored-clause-chosen
returns-in_ok-kind-in-Ignored-clause-chosen c =
    rw c.in-Ignored.is (λ b enough leaves.
    let globs = suffices_globs c.args.indexed.now c.args.question.now.name.now (bytes_of c.args.front ≡ None) b ContentOnly enough in
    by_finding b c.args.question.now.name.now c.args.question.now.host (plain_finding c.in_ok-finding.finding) (Some _) c.in_ok-kind-in-Ignored.kind.now
    (c.in_ok-finding.ensures.found b (suffices_content c.args.indexed.now c.args.question.now.name.now (bytes_of c.args.front ≡ None) b Ignored leaves enough))
    (c.in_ok-kind-in-Ignored.ensures.answer b globs.offsets globs.header globs.aliases))

-- what was found is the answer: the records where the globs decide
pub returns-in_ok-kind-in-Ignored-clause-near : goal.returns-in_ok-kind-in-Ignored-clause-near
returns-in_ok-kind-in-Ignored-clause-near c =
    rw c.in-Ignored.is (λ b globs leaves decide.
    let none = decide_unavailable b c.args.question.now.name.now _ decide in
    omega (
      arith,
      c.unalias-in-Ignored.ensures.cost.looks.most_nodes,
      ap (λ (spending : Spending). spending.meter.nodes) (c.in_ok-finding.ensures.nothing none),
    ))

-- what was found is the answer: its cost
pub returns-in_ok-kind-in-Ignored-clause-cost : goal.returns-in_ok-kind-in-Ignored-clause-cost
returns-in_ok-kind-in-Ignored-clause-cost c =
    costs_sniffed (length c.args.question.now.name.now) _ c.in_ok-finding.ensures.cost (costs_looks 256 0 c.unalias-in-Ignored.ensures.cost)
    (omega arith) (omega arith)
