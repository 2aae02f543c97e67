use Rattle.std.proofs.Common.{◌≡◌, ◌<◌, ◌==◌, ◌||◌, nat_eq, nat_lt, true, false, cond, length, take, get_or, Ok, refl, sym, ap, ◌∙◌, arith}
use Rattle.std.specs.declared.cmp.Ordering.TheVariants.{Less, Equal, Greater}
use Rattle.std.proofs.lemmas.Bool.{eq-eqb, ne_eqb, true≢false}
use Rattle.std.proofs.lemmas.List.{length-take}
use Rattle.std.proofs.lemmas.List.Sums.{common_prefix_len-le}
use Rattle.mime_base.specs.Cache.Texts.{before_zero}
use Rattle.mime_base.proofs.CacheLemmas.Orders.{order-ended, order-inside}
use Rattle.mime_base.proofs.cache.comparing.order_at_stop.Goals as goal
use Rattle.mime_base.proofs.cache.comparing.order_at_stop.Goals.{then-byte-eq0-2, else-byte-eq0-2}

pub overflow_add-place : goal.overflow_add-place
overflow_add-place c = omega (arith, length-take 256 c.args.rest.now)

pub bounds-rest-place : goal.bounds-rest-place
bounds-rest-place c = omega (arith, length-take 256 c.args.rest.now)

pub bounds-key-place : goal.bounds-key-place
bounds-key-place c =
    omega (arith, c.requires.place, (common_prefix_len-le nat_eq (before_zero (take 256 c.args.rest.now)) c.args.key.now).1)

pub returns-then-byte-eq0-clause-order : goal.returns-then-byte-eq0-clause-order
returns-then-byte-eq0-clause-order c =
    let order = order-ended 256 c.args.place c.args.rest.now c.args.key.now c.requires.place c.requires.inside c.if-place-key.true in
    ap Ok (sym (order ∙ ap (λ t. cond t Equal Greater) (eq-eqb _ 0 c.if-byte-eq0.true)))

pub returns-else-byte-eq0-clause-order : goal.returns-else-byte-eq0-clause-order
returns-else-byte-eq0-clause-order c =
    let order = order-ended 256 c.args.place c.args.rest.now c.args.key.now c.requires.place c.requires.inside c.if-place-key.true in
    ap Ok (sym (order ∙ ap (λ t. cond t Equal Greater) (ne_eqb _ 0 c.if-byte-eq0.false)))

pub returns-then-byte-key-clause-order : goal.returns-then-byte-key-clause-order
returns-then-byte-key-clause-order c =
    let b = get_or c.args.rest.now c.args.place 0 in
    let y = get_or c.args.key.now c.args.place 0 in
    let below : c.args.place < length c.args.key.now =
    omega (arith, c.requires.place, (common_prefix_len-le nat_eq (before_zero (take 256 c.args.rest.now)) c.args.key.now).1) in
    let order = order-inside 256 c.args.place c.args.rest.now c.args.key.now c.requires.place c.requires.inside below in
    let test : (b == 0 || nat_lt b y) ≡ true =
    elim c.if-byte-eq0-2.branch [
      | then-byte-eq0-2 w ↦ rw (eq-eqb b 0 w.if-byte-eq0-2.true) refl
      | else-byte-eq0-2 w ↦ rw (ne_eqb b 0 w.if-byte-eq0-2.false) (sym w.value-is ∙ c.if-byte-key.true)
    ] in
    ap Ok (sym (order ∙ ap (λ t. cond t Less Greater) test))

pub returns-else-byte-key-clause-order : goal.returns-else-byte-key-clause-order
returns-else-byte-key-clause-order c =
    let b = get_or c.args.rest.now c.args.place 0 in
    let y = get_or c.args.key.now c.args.place 0 in
    let below : c.args.place < length c.args.key.now =
    omega (arith, c.requires.place, (common_prefix_len-le nat_eq (before_zero (take 256 c.args.rest.now)) c.args.key.now).1) in
    let order = order-inside 256 c.args.place c.args.rest.now c.args.key.now c.requires.place c.requires.inside below in
    let test : (b == 0 || nat_lt b y) ≡ false =
    elim c.if-byte-eq0-2.branch [
      | then-byte-eq0-2 w ↦ absurd (true≢false (sym (eq-eqb b 0 w.if-byte-eq0-2.true) ∙ sym w.value-is ∙ c.if-byte-key.false))
      | else-byte-eq0-2 w ↦ rw (ne_eqb b 0 w.if-byte-eq0-2.false) (sym w.value-is ∙ c.if-byte-key.false)
    ] in
    ap Ok (sym (order ∙ ap (λ t. cond t Less Greater) test))
