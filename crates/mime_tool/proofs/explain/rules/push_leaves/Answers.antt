use Rattle.std.proofs.Common.{◌∷◌, [], ◌++◌, List, ap, append_assoc, arith, map, sym, take, ◌∙◌}
use Rattle.mime_base.specs.Database.Lent.{plain_rule}
use Rattle.mime_base.specs.declared.database.rule.GlobRule.{GlobRule}
use Rattle.mime_load.specs.Lent.{plain_leaf}
use Rattle.mime_load.proofs.LeafLoops.{more_left, one_taken}
use Rattle.mime_load.proofs.RuleLists.{mapped_pushed}
use Rattle.mime_tool.proofs.explain.rules.push_leaves.Goals as goal

pub loop-leaf-preserved : goal.loop-leaf-preserved
loop-leaf-preserved c =
    let leaves = c.args.leaves.now in
    let place = c.loop-leaf.place in
    let leaf = plain_leaf c.in-Some.leaf in
    let first = map plain_rule c.args.rules.now.items in
    record {
      within = omega (arith, more_left leaves place leaf c.in-Some.ensures);
      rules =
          mapped_pushed plain_rule c.loop-leaf.rules.items c.push.new.self.items _ c.in_ok-push.ensures.items
          ∙ ap (λ (front : List GlobRule). front ++ leaf ∷ []) c.loop-leaf.invariant.rules
          ∙ append_assoc first (take place leaves) (leaf ∷ [])
          ∙ ap (λ (xs : List GlobRule). first ++ xs) (sym (one_taken leaves place leaf c.in-Some.ensures));
    }
