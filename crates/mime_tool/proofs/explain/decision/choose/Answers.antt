use Rattle.std.proofs.Common.{◌≡◌, ◌∙◌, false, sym}
use Rattle.std.specs.List.{list_all}
use Rattle.std.specs.Prelude.{bytes_eq}
use Rattle.mime_base.specs.Database.{pairs_of}
use Rattle.mime_tool.specs.ExplainSteps.{database_of, kinds_of}
use Rattle.mime_tool.proofs.ExplainLemmas.Decisions.{by_preferred, chooses_preferred}
use Rattle.mime_tool.proofs.explain.decision.choose.Goals as goal

pub returns-clause-chosen : goal.returns-clause-chosen
returns-clause-chosen c =
    let split = c.in-Some.ensures.cases.0 in
    let more = kinds_of c.in-Some.more.now in
    let differ : list_all (bytes_eq c.in-Some.first.now.now) more ≡ false = sym c.are_all.ensures ∙ c.if-are_all.false in
    rw (split, c.preferred.ensures) (chooses_preferred (pairs_of (database_of c.args.explaining)) c.args.sniffed.now c.in-Some.first.now more
    c.args.is_read c.in_ok-below.below differ (rw split at c.in_ok-below.ensures))

pub returns-clause-by : goal.returns-clause-by
returns-clause-by c =
    let split = c.in-Some.ensures.cases.0 in
    let more = kinds_of c.in-Some.more.now in
    let differ : list_all (bytes_eq c.in-Some.first.now.now) more ≡ false = sym c.are_all.ensures ∙ c.if-are_all.false in
    rw (split, c.preferred.ensures) (by_preferred (pairs_of (database_of c.args.explaining)) c.args.sniffed.now c.in-Some.first.now more
    c.args.is_read c.in_ok-below.below differ (rw split at c.in_ok-below.ensures))
