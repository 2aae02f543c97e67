use Rattle.std.proofs.Common.{◌+◌, refl, arith}
use Rattle.std.specs.Vec.{with_item}
use Rattle.mime_names.proofs.SlotLemmas.{step-made}
use Rattle.mime_names.proofs.tree.new_node.Goals as goal

pub returns-clause-steps : goal.returns-clause-steps
returns-clause-steps c =
    step-made c.args.tree.now c.row_of.new.tree record {
      starts = c.push.new.self;
      slots =
          with_item c.row_of.new.tree.slots (c.in_ok-row.row + c.args.symbol) c.len-new.result;
    }
    c.args.node c.args.symbol c.in_ok-row.row c.len-new.result c.in_ok-row.ensures c.requires.symbol c.requires.none c.in_ok-push.ensures.items refl
    (omega (arith, c.len-new.ensures, c.in_ok-row.ensures.many))
