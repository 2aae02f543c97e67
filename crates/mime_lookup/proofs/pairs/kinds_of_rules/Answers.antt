use Rattle.std.proofs.Common.{take_all, map, sym, ap, ◌∙◌}
use Rattle.std.proofs.lemmas.Simd.{map-map}
use denote.Bor.{Bor}
use Rattle.mime_base.specs.Database.PlainPairs.{plain_pairs}
use Rattle.mime_base.specs.Database.Subclass.{resolved}
use Rattle.mime_base.specs.declared.database.rule.GlobRule.{GlobRule}
use Rattle.mime_lookup.proofs.pairs.kinds_of_rules.Goals as goal

pub returns : goal.returns
returns c =
    let step = resolved (plain_pairs c.args.aliases.now) in
    c.loop-rule.invariant
    ∙ ap (map (λ (rule : Bor GlobRule). step rule.now.kind)) (take_all c.loop-rule.rule-index c.args.rules.now c.loop-rule-test.false)
    ∙ sym (map-map (λ (rule : GlobRule). step rule.kind) (λ (rule : Bor GlobRule). rule.now) c.args.rules.now)
