use Rattle.std.proofs.Common.{refl}
use Rattle.mime_load.specs.Lent.{plain_pair}
use Rattle.mime_tool.proofs.CheckLemmas.LineCounts.{length-sections}
use Rattle.mime_tool.proofs.CheckLemmas.RuleCounts.{length-plain}
use Rattle.mime_tool.proofs.check.counts.counts_of.Goals as goal

pub returns : goal.returns
returns c =
    let lists = c.args.lists.now in
    rw (
      c.rule_count_of.ensures,
      c.line_count_of.ensures,
      c.len.ensures,
      c.len-2.ensures,
      c.len-3.ensures,
      c.len-4.ensures,
      c.len-5.ensures,
      length-plain lists.aliases plain_pair,
      length-plain lists.parents plain_pair,
      length-sections lists.magic,
      length-plain lists.icons plain_pair,
      length-plain lists.generic_icons plain_pair,
    ) refl
