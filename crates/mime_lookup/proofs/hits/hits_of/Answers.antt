use Rattle.std.proofs.Common.{map, take_all, ap, ◌∙◌, arith}
use Rattle.mime_base.specs.Kept.{candidate_rules}
use Rattle.mime_names.specs.Rules.{own_parts}
use Rattle.mime_lookup.proofs.HitLemmas.{parts-given}
use Rattle.mime_lookup.proofs.hits.hits_of.Goals as goal

pub push_reserved-requires : goal.push_reserved-requires
push_reserved-requires c =
    omega (arith, c.loop-rule.invariant.long, c.loop-rule.invariant.room, c.loop-rule-test.true, c.loop-rule.hits.ok.0)

pub returns-clause-hits : goal.returns-clause-hits
returns-clause-hits c = record {
  each =
      parts-given c.loop-rule.hits.items _ (candidate_rules c.args.index.now.own c.args.name.now)
      (c.loop-rule.invariant.are
      ∙ ap (map own_parts) (take_all c.loop-rule.rule-index c.deref-rule-items.result.now c.loop-rule-test.false ∙ c.deref-rule-items.ensures.value))
      c.in_ok-rules.ensures.own;
  count = c.in_ok-rules.ensures.own_kept;
}
