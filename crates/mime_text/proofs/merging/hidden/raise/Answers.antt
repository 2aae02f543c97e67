use Rattle.std.proofs.Common.{◌<◌, ◌∙◌, bytes_eq, ap, subst, arith}
use Rattle.std.proofs.lemmas.Map.Text.{btree_map_updates_str}
use Rattle.std.proofs.lemmas.Slice.Eq.{bytes_eq-Decides}
use Rattle.mime_text.specs.Merging.Hiding.{or_zero, weight_in}
use Rattle.mime_text.proofs.Merges.Twins.{raised}
use Rattle.mime_text.proofs.merging.hidden.raise.Goals as goal

pub returns-in_ok-insert : goal.returns-in_ok-insert
returns-in_ok-insert c = λ other.
    let text = c.args.text.now in
    let less : weight_in c.args.weights.now text < c.args.weight = omega (arith, c.weight_of.ensures, c.if-weight_of-weight.true) in
    ap or_zero (btree_map_updates_str text c.args.weights.now c.insert.new.self _ c.in_ok-insert.ensures.updates other)
    ∙ raised (bytes_eq text other) c.args.weight _
    (λ same. subst (λ x. weight_in c.args.weights.now x < c.args.weight) ((bytes_eq-Decides text other).0 same) less)
