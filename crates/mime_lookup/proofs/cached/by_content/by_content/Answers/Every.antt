-- Where the types of all rules that match are left.
use Rattle.std.proofs.Common.{◌≡◌, None, Some, inr, ap, length, arith}
use Rattle.mime_lookup.specs.Cached.{IsCacheText, cause_of, plain_finding}
use Rattle.mime_lookup.specs.Finding.{is_by_magic}
use Rattle.mime_lookup.specs.Halves.{bytes_of}
use Rattle.mime_lookup.specs.declared.cached.by_name.Candidates.TheVariants.{Every}
use Rattle.mime_lookup.specs.declared.order.Order.TheVariants.{AllGlobs}
use Rattle.mime_lookup.proofs.OrderLemmas.ByContents.{asked_all, asked_few, one_asked, suffices_asked, suffices_content, suffices_globs, used_unread}
use Rattle.mime_lookup.proofs.CostLemmas.Costs.{costs_sniffed}
use Rattle.mime_lookup.proofs.OrderLemmas.AllGlobs.{every_with_content}
use Rattle.mime_lookup.proofs.CostLemmas.Near.{few_asked}
use Rattle.mime_lookup.proofs.StopLemmas.StepStops.{passed_on, stops_then}
use Rattle.mime_view.specs.declared.spending.Spending.{Spending}
use Rattle.mime_lookup.proofs.cached.by_content.by_content.Goals as goal

-- the types that are asked: they are texts of the cache
pub choose-requires-in-Every-clause-texts : goal.choose-requires-in-Every-clause-texts
choose-requires-in-Every-clause-texts c =
    let asked = rw c.as_slice-in-Every.ensures at c.asked_of-kinds.ensures in
    rw asked (asked_all (IsCacheText c.args.indexed.now) (is_by_magic (plain_finding c.in_ok-finding.finding)) c.in-Every.kinds c.in-Every.asked
    (rw c.in-Every.is at c.requires.texts).0)

-- the choice stops: the reason
pub returns-in_err-kind-in-Every-clause-stops : goal.returns-in_err-kind-in-Every-clause-stops
returns-in_err-kind-in-Every-clause-stops c =
    let asked = rw c.as_slice-in-Every.ensures at c.asked_of-kinds.ensures in
    let choose = rw asked at c.in_err-kind-in-Every.ensures.stops in
    rw c.in-Every.is (passed_on _ c.in_err-kind-in-Every.field-0.0 c.from_residual-in_err-kind-in-Every.result
    c.from_residual-in_err-kind-in-Every.ensures.1 (stops_then (cause_of c.in_err-kind-in-Every.field-0.0) choose
    (used_unread c.args.indexed.now c.args.spending.now.budget _ c.choose-in-Every.new.spending.budget tt) (λ b enough.
    let content = suffices_content c.args.indexed.now c.args.question.now.name.now (bytes_of c.args.front ≡ None) b (Every c.in-Every.kinds c.in-Every.asked) enough.1 enough.0 in (
      suffices_asked c.args.indexed.now c.args.question.now.name.now (bytes_of c.args.front) b c.args.question.now.host (plain_finding c.in_ok-finding.finding)
          c.in-Every.kinds c.in-Every.asked (c.in_ok-finding.ensures.found b content) enough.1 enough.0,
      omega (arith, enough.2.records, c.in_ok-finding.ensures.takes b content),
    )) (λ b enough read. read)))

-- the choice stops: its cost
pub returns-in_err-kind-in-Every-clause-cost : goal.returns-in_err-kind-in-Every-clause-cost
returns-in_err-kind-in-Every-clause-cost c =
    let asked = rw c.as_slice-in-Every.ensures at c.asked_of-kinds.ensures in
    let few = asked_few (is_by_magic (plain_finding c.in_ok-finding.finding)) c.in-Every.kinds c.in-Every.asked in
    rw c.in-Every.is (costs_sniffed (length c.args.question.now.name.now) _ c.in_ok-finding.ensures.cost
    (rw asked at c.in_err-kind-in-Every.ensures.costs.cost) (omega arith) (omega (arith, few)))

-- a type is chosen: the order gives this type
pub returns-in_ok-kind-in-Every-clause-chosen : goal.returns-in_ok-kind-in-Every-clause-chosen
returns-in_ok-kind-in-Every-clause-chosen c =
    let asked = rw c.as_slice-in-Every.ensures at c.asked_of-kinds.ensures in
    rw c.in-Every.is (λ b enough leaves.
    let name = c.args.question.now.name.now in
    let globs = suffices_globs c.args.indexed.now name (bytes_of c.args.front ≡ None) b AllGlobs enough in
    let content = suffices_content c.args.indexed.now name (bytes_of c.args.front ≡ None) b (Every c.in-Every.kinds c.in-Every.asked) leaves enough in
    let found = c.in_ok-finding.ensures.found b content in
    every_with_content b name c.args.question.now.host globs.ranks (plain_finding c.in_ok-finding.finding) (Some _)
    c.in_ok-kind-in-Every.kind.now found
    (rw (leaves.1, leaves.2) at ((rw asked at c.in_ok-kind-in-Every.ensures.answers.chosen) b
    (suffices_asked c.args.indexed.now name (bytes_of c.args.front) b c.args.question.now.host (plain_finding c.in_ok-finding.finding)
    c.in-Every.kinds c.in-Every.asked found leaves enough))))

-- a type is chosen: the records where the globs decide
pub returns-in_ok-kind-in-Every-clause-near : goal.returns-in_ok-kind-in-Every-clause-near
returns-in_ok-kind-in-Every-clause-near c =
    let asked = rw c.as_slice-in-Every.ensures at c.asked_of-kinds.ensures in
    rw c.in-Every.is (λ b globs leaves decide.
    let name = c.args.question.now.name.now in
    let none = (few_asked b name _ c.in-Every.asked leaves.2 leaves.0 decide).1 in
    let found = c.in_ok-finding.ensures.found b (inr none) in
    let unspent = (rw asked at c.in_ok-kind-in-Every.ensures.costs.alone) (one_asked c.args.indexed.now name (bytes_of c.args.front) b
    c.args.question.now.host (plain_finding c.in_ok-finding.finding) c.in-Every.kinds c.in-Every.asked found leaves decide) in
    omega (arith, unspent.looks.most_nodes, ap (λ (spending : Spending). spending.meter.nodes) (c.in_ok-finding.ensures.nothing none)))

-- a type is chosen: its cost
pub returns-in_ok-kind-in-Every-clause-cost : goal.returns-in_ok-kind-in-Every-clause-cost
returns-in_ok-kind-in-Every-clause-cost c =
    let asked = rw c.as_slice-in-Every.ensures at c.asked_of-kinds.ensures in
    let few = asked_few (is_by_magic (plain_finding c.in_ok-finding.finding)) c.in-Every.kinds c.in-Every.asked in
    rw c.in-Every.is (costs_sniffed (length c.args.question.now.name.now) _ c.in_ok-finding.ensures.cost
    (rw asked at c.in_ok-kind-in-Every.ensures.costs.cost) (omega arith) (omega (arith, few)))
