use Rattle.std.proofs.Common.{List, ap, map, reverse, ◌∙◌}
use Rattle.mime_base.specs.declared.database.rule.GlobRule.{GlobRule}
use Rattle.mime_load.specs.Leaves.{plain_entry}
use Rattle.mime_load.proofs.LeafEntries.{entries_reversed}
use Rattle.mime_load.proofs.leaf.Leaves.reverse.Goals as goal

pub returns : goal.returns
returns c =
    ap (map (plain_entry c.self.inside.patterns.items)) c.reverse.ensures.items
    ∙ entries_reversed c.self.inside.patterns.items c.self.inside.entries.items
    ∙ ap (λ (xs : List GlobRule). reverse xs) c.self.view_is
