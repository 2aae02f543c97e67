use Rattle.std.proofs.Common.{◌+◌, ◌≤◌, List, map, subst, ap, ◌∙◌}
use Rattle.mime_base.specs.Database.{pairs_of, plain_database}
use Rattle.mime_base.specs.Kept.{kept_rules}
use Rattle.mime_base.specs.declared.database.Database.{Database}
use Rattle.mime_base.specs.declared.database.rule.GlobRule.{GlobRule}
use Rattle.mime_lookup.specs.Indexed.{unaliased_rule}
use Rattle.mime_lookup.specs.IndexBytes.{tried_bytes}
use Rattle.mime_lookup.proofs.IndexLemmas.IndexBytes.{kept-near, kept-tried}
use Rattle.mime_lookup.proofs.IndexLemmas.IndexNodes.{kept-nodes}
use Rattle.mime_lookup.proofs.IndexLemmas.LentRules.{kept-step}
use Rattle.mime_lookup.proofs.indexed.kept.kept_kinds.Goals as goal

pub returns-clause-kept : goal.returns-clause-kept
returns-clause-kept c =
    let name = c.args.name.now in
    let kinds = λ (rules : List GlobRule). map (λ (rule : GlobRule). rule.kind) (kept_rules rules name) in
    c.in_ok-kinds.ensures.kept
    ∙ ap kinds c.index.invariant.0.named.are
    ∙ ap (λ (d : Database). kinds (map (unaliased_rule (pairs_of (plain_database d)).aliases) d.rules.items)) c.index.view_is
    ∙ kept-step (pairs_of (plain_database c.args.index.now)) c.args.index.now.rules.items name c.keeps_limits.ensures.ranks

pub returns-in_err-kinds-clause-nodes : goal.returns-in_err-kinds-clause-nodes
returns-in_err-kinds-clause-nodes c =
    kept-nodes (pairs_of (plain_database c.args.index.now)).aliases _ c.args.index.now.rules.items c.args.name.now
    (c.index.invariant.0.named.are
    ∙ ap (λ (d : Database). map (unaliased_rule (pairs_of (plain_database d)).aliases) d.rules.items) c.index.view_is)
    c.args.meter.now.nodes c.kept_kinds-2.new.meter.nodes c.kept_kinds-2.ensures.near c.kept_kinds-2.ensures.texts

pub returns-clause-nodes : goal.returns-clause-nodes
returns-clause-nodes c =
    kept-nodes (pairs_of (plain_database c.args.index.now)).aliases _ c.args.index.now.rules.items c.args.name.now
    (c.index.invariant.0.named.are
    ∙ ap (λ (d : Database). map (unaliased_rule (pairs_of (plain_database d)).aliases) d.rules.items) c.index.view_is)
    c.args.meter.now.nodes c.kept_kinds-2.new.meter.nodes c.kept_kinds-2.ensures.near c.kept_kinds-2.ensures.texts

pub returns-then-is_mostly_general-clause-bytes : goal.returns-then-is_mostly_general-clause-bytes
returns-then-is_mostly_general-clause-bytes c =
    kept-tried (pairs_of (plain_database c.args.index.now)).aliases _ c.args.index.now.rules.items c.args.name.now
    (c.index.invariant.0.named.are
    ∙ ap (λ (d : Database). map (unaliased_rule (pairs_of (plain_database d)).aliases) d.rules.items) c.index.view_is)
    c.args.meter.now.bytes c.kept_kinds.new.meter.bytes c.is_mostly_general.result c.is_mostly_general.ensures
    c.if-is_mostly_general.true
    (subst (λ (d : Database). c.kept_kinds.new.meter.bytes ≤ c.args.meter.now.bytes + tried_bytes d.rules.items c.args.name.now)
    c.index.view_is c.kept_kinds.ensures.bytes)

pub returns-in_err-kinds-clause-bytes : goal.returns-in_err-kinds-clause-bytes
returns-in_err-kinds-clause-bytes c =
    kept-near (pairs_of (plain_database c.args.index.now)).aliases _ c.args.index.now.rules.items c.args.name.now
    (c.index.invariant.0.named.are
    ∙ ap (λ (d : Database). map (unaliased_rule (pairs_of (plain_database d)).aliases) d.rules.items) c.index.view_is)
    c.args.meter.now.bytes c.kept_kinds-2.new.meter.bytes c.is_mostly_general.result c.is_mostly_general.ensures
    c.if-is_mostly_general.false c.kept_kinds-2.ensures.bytes c.kept_kinds-2.ensures.text_bytes

pub returns-clause-bytes : goal.returns-clause-bytes
returns-clause-bytes c =
    kept-near (pairs_of (plain_database c.args.index.now)).aliases _ c.args.index.now.rules.items c.args.name.now
    (c.index.invariant.0.named.are
    ∙ ap (λ (d : Database). map (unaliased_rule (pairs_of (plain_database d)).aliases) d.rules.items) c.index.view_is)
    c.args.meter.now.bytes c.kept_kinds-2.new.meter.bytes c.is_mostly_general.result c.is_mostly_general.ensures
    c.if-is_mostly_general.false c.kept_kinds-2.ensures.bytes c.kept_kinds-2.ensures.text_bytes
