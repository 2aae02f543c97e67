use Rattle.std.proofs.Common.{◌∙◌, length, sym, ap}
use Rattle.std.proofs.lemmas.Bool.{true≢false}
use Rattle.mime_lookup.specs.Finding.{found_by}
use Rattle.mime_lookup.proofs.OrderLemmas.ByContents.{content_magic}
use Rattle.mime_lookup.proofs.CostLemmas.Costs.{costs_magic}
use Rattle.mime_lookup.proofs.StopLemmas.StepStops.{passed_on, stops_for}
use Rattle.mime_lookup.proofs.CostLemmas.UsedUp.{sniff_fault_spent}
use Rattle.mime_lookup.proofs.cached.sniff.sniff_front.Goals as goal

pub returns-in_err-section-clause-stops : goal.returns-in_err-section-clause-stops
returns-in_err-section-clause-stops c =
    let sniff = c.in_err-section in
    rw c.in-Some.is (passed_on _ sniff.field-0.0 c.from_residual.result c.from_residual.ensures.1
    (stops_for _ _ _ sniff.field-0.0
    (sniff_fault_spent c.args.cache.now c.in-Some.front.now c.args.host _ c.sniff.new.budget _ (λ none. absurd cc) sniff.ensures.asked
    sniff.field-0.0 sniff.ensures.fault)
    (λ b enough.
    let spells = content_magic c.args.cache.now c.in-Some.front.now b enough.0 in
    absurd (true≢false (sym
    ((sniff.ensures.answers spells.offsets b.sections spells.header spells.lines spells.magic).need tt enough.1 enough.2))))))

pub returns-in_err-section-clause-fault : goal.returns-in_err-section-clause-fault
returns-in_err-section-clause-fault c =
    let sniff = c.in_err-section in
    rw c.in-Some.is (passed_on _ sniff.field-0.0 c.from_residual.result c.from_residual.ensures.1 sniff.ensures.fault)

pub returns-in_err-section-clause-nothing : goal.returns-in_err-section-clause-nothing
returns-in_err-section-clause-nothing c = rw c.in-Some.is (λ none. absurd cc)

pub returns-in_err-section-clause-takes : goal.returns-in_err-section-clause-takes
returns-in_err-section-clause-takes c =
    rw c.in-Some.is (λ b enough.
    let spells = content_magic c.args.cache.now c.in-Some.front.now b enough in
    (c.sniff.ensures.answers spells.offsets b.sections spells.header spells.lines spells.magic).takes.most_records)

pub returns-in_err-section-clause-cost : goal.returns-in_err-section-clause-cost
returns-in_err-section-clause-cost c = rw c.in-Some.is (costs_magic (length c.in-Some.front.now) _ _ c.sniff.ensures.cost)

pub returns-clause-found : goal.returns-clause-found
returns-clause-found c =
    rw c.in-Some.is (λ b enough.
    let spells = content_magic c.args.cache.now c.in-Some.front.now b enough in
    c.finding_of.ensures.found ∙ ap (λ section. found_by section c.in-Some.front.now)
    (c.in_ok-section.ensures.answers spells.offsets b.sections spells.header spells.lines spells.magic).answer)

pub returns-clause-finding : goal.returns-clause-finding
returns-clause-finding c = c.finding_of.ensures.finding c.args.cache.now c.in_ok-section.ensures.text

pub returns-clause-nothing : goal.returns-clause-nothing
returns-clause-nothing c = rw c.in-Some.is (λ none. absurd cc)

pub returns-clause-takes : goal.returns-clause-takes
returns-clause-takes c =
    rw c.in-Some.is (λ b enough.
    let spells = content_magic c.args.cache.now c.in-Some.front.now b enough in
    (c.sniff.ensures.answers spells.offsets b.sections spells.header spells.lines spells.magic).takes.most_records)

pub returns-clause-cost : goal.returns-clause-cost
returns-clause-cost c = rw c.in-Some.is (costs_magic (length c.in-Some.front.now) _ _ c.sniff.ensures.cost)
