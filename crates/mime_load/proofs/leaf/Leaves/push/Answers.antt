use Rattle.std.proofs.Common.{◌++◌, ◌∷◌, [], List, ap, ap₂, map, ◌∙◌, refl, rules}
use Rattle.mime_base.specs.declared.database.rule.GlobRule.{GlobRule}
use Rattle.mime_load.specs.Lent.{plain_leaf}
use Rattle.mime_load.specs.Leaves.{plain_entry}
use Rattle.mime_load.proofs.LeafEntries.{rules-more}
use Rattle.mime_load.proofs.leaf.Leaves.push.Goals as goal

pub returns-clause-pushed : goal.returns-clause-pushed
returns-clause-pushed c =
    ap₂ (λ patterns entries. map (plain_entry patterns) entries) c.in_ok-extend_from_slice.ensures.items c.in_ok-push.ensures.items
    ∙ rules-more c.self.inside.patterns.items c.args.rule.pattern.now c.self.inside.entries.items _ (plain_leaf c.args.rule)
    c.self.invariant (search rules) (search rules) refl
    ∙ ap (λ (xs : List GlobRule). xs ++ plain_leaf c.args.rule ∷ []) c.self.view_is
