use Rattle.std.proofs.Common.{◌+◌, ◌≤◌, List, length, map, subst, ap, ◌∙◌}
use Rattle.mime_base.specs.Database.{pairs_of, plain_database}
use Rattle.mime_base.specs.Kept.{candidate_rules, kept_rules}
use Rattle.mime_base.specs.declared.database.Database.{Database}
use Rattle.mime_base.specs.declared.database.rule.GlobRule.{GlobRule}
use Rattle.mime_lookup.specs.Indexed.{unaliased_rule}
use Rattle.mime_lookup.specs.IndexBytes.{tried_bytes}
use Rattle.mime_lookup.proofs.IndexLemmas.IndexBytes.{all-near, all-tried}
use Rattle.mime_lookup.proofs.IndexLemmas.IndexNodes.{all-nodes}
use Rattle.mime_lookup.proofs.IndexLemmas.LentRules.{candidates-step, kept-count}
use Rattle.mime_lookup.proofs.indexed.candidates.candidate_kinds.Goals as goal

pub returns-clause-candidates : goal.returns-clause-candidates
returns-clause-candidates c =
    let name = c.args.name.now in
    let kinds = λ (rules : List GlobRule). map (λ (rule : GlobRule). rule.kind) (candidate_rules rules name) in
    c.in_ok-found.ensures.candidates
    ∙ ap kinds c.index.invariant.0.named.are
    ∙ ap (λ (d : Database). kinds (map (unaliased_rule (pairs_of (plain_database d)).aliases) d.rules.items)) c.index.view_is
    ∙ candidates-step (pairs_of (plain_database c.args.index.now)) c.args.index.now.rules.items name

pub returns-clause-count : goal.returns-clause-count
returns-clause-count c =
    let name = c.args.name.now in
    c.in_ok-found.ensures.kept
    ∙ ap (λ (rules : List GlobRule). length (kept_rules rules name)) c.index.invariant.0.named.are
    ∙ ap (λ (d : Database). length (kept_rules (map (unaliased_rule (pairs_of (plain_database d)).aliases) d.rules.items) name)) c.index.view_is
    ∙ kept-count (pairs_of (plain_database c.args.index.now)) c.args.index.now.rules.items name c.keeps_limits.ensures.ranks

pub returns-in_err-found-clause-nodes : goal.returns-in_err-found-clause-nodes
returns-in_err-found-clause-nodes c =
    all-nodes (pairs_of (plain_database c.args.index.now)).aliases _ c.args.index.now.rules.items c.args.name.now
    (c.index.invariant.0.named.are
    ∙ ap (λ (d : Database). map (unaliased_rule (pairs_of (plain_database d)).aliases) d.rules.items) c.index.view_is)
    c.args.meter.now.nodes c.candidate_kinds-2.new.meter.nodes c.candidate_kinds-2.ensures.near

pub returns-clause-nodes : goal.returns-clause-nodes
returns-clause-nodes c =
    all-nodes (pairs_of (plain_database c.args.index.now)).aliases _ c.args.index.now.rules.items c.args.name.now
    (c.index.invariant.0.named.are
    ∙ ap (λ (d : Database). map (unaliased_rule (pairs_of (plain_database d)).aliases) d.rules.items) c.index.view_is)
    c.args.meter.now.nodes c.candidate_kinds-2.new.meter.nodes c.candidate_kinds-2.ensures.near

pub returns-in_err-found-clause-bytes : goal.returns-in_err-found-clause-bytes
returns-in_err-found-clause-bytes c =
    all-near (pairs_of (plain_database c.args.index.now)).aliases _ c.args.index.now.rules.items c.args.name.now
    (c.index.invariant.0.named.are
    ∙ ap (λ (d : Database). map (unaliased_rule (pairs_of (plain_database d)).aliases) d.rules.items) c.index.view_is)
    c.args.meter.now.bytes c.candidate_kinds-2.new.meter.bytes c.is_mostly_general.result c.is_mostly_general.ensures
    c.if-is_mostly_general.false c.candidate_kinds-2.ensures.bytes

pub returns-clause-bytes : goal.returns-clause-bytes
returns-clause-bytes c =
    all-near (pairs_of (plain_database c.args.index.now)).aliases _ c.args.index.now.rules.items c.args.name.now
    (c.index.invariant.0.named.are
    ∙ ap (λ (d : Database). map (unaliased_rule (pairs_of (plain_database d)).aliases) d.rules.items) c.index.view_is)
    c.args.meter.now.bytes c.candidate_kinds-2.new.meter.bytes c.is_mostly_general.result c.is_mostly_general.ensures
    c.if-is_mostly_general.false c.candidate_kinds-2.ensures.bytes

pub returns-then-is_mostly_general-clause-bytes : goal.returns-then-is_mostly_general-clause-bytes
returns-then-is_mostly_general-clause-bytes c =
    all-tried (pairs_of (plain_database c.args.index.now)).aliases _ c.args.index.now.rules.items c.args.name.now
    (c.index.invariant.0.named.are
    ∙ ap (λ (d : Database). map (unaliased_rule (pairs_of (plain_database d)).aliases) d.rules.items) c.index.view_is)
    c.args.meter.now.bytes c.candidate_kinds.new.meter.bytes c.is_mostly_general.result c.is_mostly_general.ensures
    c.if-is_mostly_general.true
    (subst (λ (d : Database). c.candidate_kinds.new.meter.bytes ≤ c.args.meter.now.bytes + tried_bytes d.rules.items c.args.name.now)
    c.index.view_is c.candidate_kinds.ensures.bytes)
