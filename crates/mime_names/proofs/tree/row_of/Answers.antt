use Rattle.std.proofs.Common.{◌≡◌, ◌∙◌, ℕ, get_or, replicate, refl, arith}
use Rattle.std.proofs.lemmas.List.{get_or_default, length-replicate}
use Rattle.std.specs.Vec.{with_item}
use Rattle.mime_names.proofs.RowLemmas.{row-made, zeros}
use Rattle.mime_names.proofs.tree.row_of.Goals as goal

pub returns : goal.returns
returns c =
    let starts = c.args.tree.now.starts.items in
    let start : c.index-start.result.now ≡ get_or starts c.args.node 0 =
    c.index-start.ensures ∙ get_or_default starts c.args.node c.index-start.result.now 0 c.requires.node in
    row-made c.args.tree.now record { starts = with_item c.args.tree.now.starts c.args.node c.len-row.result; slots = c.extend_from_slice.new.self } c.args.node c.len-row.result (replicate 64 0)
    c.requires.tree c.requires.node (omega (arith, start, c.if-start-gt0.false)) (omega (arith, c.len-row.ensures, c.args.tree.now.slots.ok.0))
    refl c.in_ok-extend_from_slice.ensures.items (length-replicate {A = ℕ} 64 0) (zeros 64)
