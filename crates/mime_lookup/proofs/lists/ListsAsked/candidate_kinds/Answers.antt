use Rattle.std.proofs.Common.{List, length, map, ap, sym, subst, ◌∙◌}
use Rattle.std.specs.List.{All}
use Rattle.std.proofs.lemmas.List.{length-map}
use Rattle.mime_base.specs.Database.{pairs_of, plain_database}
use Rattle.mime_base.specs.Database.Subclass.{resolved}
use Rattle.mime_base.specs.Kept.{FitsRank, candidate_rules, kept_rules}
use Rattle.mime_base.specs.declared.database.rule.GlobRule.{GlobRule}
use Rattle.mime_lookup.specs.Choice.{candidates, kept}
use Rattle.mime_lookup.proofs.lists.ListsAsked.candidate_kinds.Goals as goal

pub returns-clause-candidates : goal.returns-clause-candidates
unfolding candidates
returns-clause-candidates c =
    let step = λ (rule : GlobRule). resolved (pairs_of (plain_database c.args.self.now.database.now)).aliases rule.kind in
    (rw (c.deref-2.ensures.value, c.deref-3.ensures.value) at c.in_ok-kinds.ensures)
    ∙ ap (map step)
    (c.in_ok-found.ensures.candidates ∙ ap (λ (rules : List GlobRule). candidate_rules rules c.args.name.now) c.deref.ensures.value)

pub returns-clause-count : goal.returns-clause-count
unfolding kept
returns-clause-count c =
    let step = λ (rule : GlobRule). resolved (pairs_of (plain_database c.args.self.now.database.now)).aliases rule.kind in
    c.in_ok-found.ensures.kept (subst (All FitsRank) (sym c.deref.ensures.value) c.keeps_limits.ensures.ranks)
    ∙ ap (λ (rules : List GlobRule). length (kept_rules rules c.args.name.now)) c.deref.ensures.value
    ∙ sym (length-map (kept_rules c.args.self.now.database.now.rules.items c.args.name.now) step)
