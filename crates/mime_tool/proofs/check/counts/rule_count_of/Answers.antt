use Rattle.std.proofs.Common.{arith}
use Rattle.mime_tool.proofs.CheckLemmas.RuleCounts.{rules_length}
use Rattle.mime_tool.proofs.check.counts.rule_count_of.Goals as goal

pub returns : goal.returns
returns c =
    let lists = c.args.lists.now in
    omega (
      arith,
      rules_length lists,
      c.requires.few.rules,
      c.len-literals.ensures,
      c.len-leaves.ensures,
      c.len-globs.ensures,
      lists.literals.ok.0,
      lists.globs.ok.0,
      c.saturating_add.ensures,
      c.saturating_add-2.ensures,
    )
