-- The marked entries are the first of each key.
use Rattle.std.proofs.Common.{◌≡◌, ◌∙◌, [], length, map, ap, arith}
use Rattle.mime_text.proofs.Merges.Once.{length-marks, once-few, picked-once}
use Rattle.mime_text.specs.Merging.{has_same_key, marks, once, picked}
use Rattle.mime_text.proofs.merging.first.first_of_each.Goals as goal

pub marked-requires : goal.marked-requires
marked-requires g c =
    ap length c.in_ok-marks.ensures ∙ length-marks g.K.Key.key_of [] c.deref.result.now ∙ ap length c.deref.ensures.value

pub returns : goal.returns
returns g c =
    let key_of = g.K.Key.key_of in
    let is : picked c.in_ok-marks.marks.items c.args.entries.items ≡ once (has_same_key key_of) c.args.entries.items =
    ap (λ ms. picked ms c.args.entries.items) (c.in_ok-marks.ensures ∙ ap (λ xs. marks [] (map key_of xs)) c.deref.ensures.value)
    ∙ picked-once key_of c.args.entries.items in
    rw (← is) c.marked.ensures

pub returns-then-len-lt2 : goal.returns-then-len-lt2
returns-then-len-lt2 g c = once-few (has_same_key g.K.Key.key_of) c.args.entries.items (omega (arith, c.if-len-lt2.true, c.len.ensures))
