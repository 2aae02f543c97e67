use Rattle.std.proofs.Common.{List, map, subst, ap, ◌∙◌, arith}
use Rattle.mime_base.specs.Database.{pairs_of, plain_database}
use Rattle.mime_base.specs.declared.database.Database.{Database}
use Rattle.mime_base.specs.declared.database.rule.GlobRule.{GlobRule}
use Rattle.mime_base.specs.declared.meter.Meter.{Meter}
use Rattle.mime_lookup.specs.Indexed.{unaliased_rule}
use Rattle.mime_lookup.proofs.IndexLemmas.IndexBytes.{near-bytes-same}
use Rattle.mime_lookup.proofs.IndexLemmas.IndexNodes.{all-nodes}
use Rattle.mime_view.specs.RuleHits.{AreRuleHits}
use Rattle.mime_lookup.proofs.indexed.hits.hits_indexed.Goals as goal

pub returns-in-Ok-clause-answer : goal.returns-in-Ok-clause-answer
returns-in-Ok-clause-answer c =
    subst (λ (rules : List GlobRule). AreRuleHits c.args.name.now rules c.in-Ok.hits)
    (c.index.invariant.0.named.own ∙ ap (λ (d : Database). d.rules.items) c.index.view_is) c.in-Ok.ensures.hits

pub returns-in-Ok-clause-nodes : goal.returns-in-Ok-clause-nodes
returns-in-Ok-clause-nodes c =
    let bound =
    all-nodes (pairs_of (plain_database c.args.index.now)).aliases _ c.args.index.now.rules.items c.args.name.now
    (c.index.invariant.0.named.are
    ∙ ap (λ (d : Database). map (unaliased_rule (pairs_of (plain_database d)).aliases) d.rules.items) c.index.view_is)
    c.new-meter.result.nodes c.hits_of.new.meter.nodes c.hits_of.ensures.near in
    omega (arith, bound, ap (λ (meter : Meter). meter.nodes) c.new-meter.ensures)

pub returns-in-Ok-clause-bytes : goal.returns-in-Ok-clause-bytes
returns-in-Ok-clause-bytes c =
    let same =
    near-bytes-same (pairs_of (plain_database c.args.index.now)).aliases _ c.args.index.now.rules.items c.args.name.now
    (c.index.invariant.0.named.are
    ∙ ap (λ (d : Database). map (unaliased_rule (pairs_of (plain_database d)).aliases) d.rules.items) c.index.view_is)
    c.new-meter.result.bytes c.hits_of.new.meter.bytes in
    omega (arith, same, c.hits_of.ensures.bytes, ap (λ (meter : Meter). meter.bytes) c.new-meter.ensures)
