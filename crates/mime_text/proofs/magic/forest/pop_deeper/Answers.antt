use Rattle.std.proofs.Common.{◌≡◌, ◌<◌, ◌-◌, length, get_or, Some, arith, ap, sym, ◌∙◌, vec_len}
use Rattle.mime_text.proofs.MagicLemmas.Stack.{popped}
use Rattle.mime_text.proofs.magic.forest.pop_deeper.Goals as goal

pub returns-in-Some : goal.returns-in-Some
returns-in-Some c =
    let li = c.in-Some.ensures.item in
    let same : c.deref.result.now ≡ c.args.roots.now.items = c.deref.ensures.value in
    let some : 0 < vec_len c.args.roots.now = omega (arith, li.3.0, ap length same) in
    let v = c.pop.ensures.value c.in-Some.last.now some in
    let n : length c.deref.result.now ≡ vec_len c.args.roots.now = c.deref.ensures.len in
    let last = c.in-Some.last.now in
    let at : get_or c.args.roots.now.items (vec_len c.args.roots.now - 1) last ≡ last = (cc (same, n, li.1)) in
    popped c.args.indent c.args.roots.now.items c.pop.new.self.items c.pop.result c.in-Some.last.now
    (v ∙ ap (λ r. Some r) at) c.pop.ensures.items
    (sym c.is_deeper.ensures ∙ c.if-is_deeper.true)
