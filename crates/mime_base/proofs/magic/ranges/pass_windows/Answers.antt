use Rattle.std.proofs.Common.{◌-◌, take, drop, get_or, arith}
use Rattle.std.proofs.lemmas.List.{take_rest}
use Rattle.mime_base.proofs.MagicLemmas.SecondBytes.{pairs_passed}
use Rattle.mime_base.proofs.MagicLemmas.Skipping.{passed-differs, passed_over-before}
use Rattle.mime_base.proofs.magic.ranges.pass_windows.Goals as goal

pub returns-then-value-eq1-clause-equal : goal.returns-then-value-eq1-clause-equal
returns-then-value-eq1-clause-equal c = λ word host single.
    let bytes = take (c.args.end - c.args.at) (drop c.args.at c.args.content.now) in
    let told = passed-differs (get_or c.args.value.now 0 0) bytes c.memchr.result c.memchr.ensures in
    (passed_over-before c.args.value.now word host c.args.content.now c.requires.some single
    (omega (arith, c.type_inv.value 0)) (λ i. omega (arith, c.type_inv.content i)) c.args.at c.args.end
    c.unwrap_or-length.result c.requires.order c.requires.inside (omega (arith, told.0, c.unwrap_or-length.ensures))
    (λ i below. told.1 i (omega (arith, c.unwrap_or-length.ensures)))).0

pub returns-then-value-eq1-clause-counted : goal.returns-then-value-eq1-clause-counted
returns-then-value-eq1-clause-counted c = λ word host single.
    let bytes = take (c.args.end - c.args.at) (drop c.args.at c.args.content.now) in
    let told = passed-differs (get_or c.args.value.now 0 0) bytes c.memchr.result c.memchr.ensures in
    let passed = passed_over-before c.args.value.now word host c.args.content.now c.requires.some single
    (omega (arith, c.type_inv.value 0)) (λ i. omega (arith, c.type_inv.content i)) c.args.at c.args.end
    c.unwrap_or-length.result c.requires.order c.requires.inside (omega (arith, told.0, c.unwrap_or-length.ensures))
    (λ i below. told.1 i (omega (arith, c.unwrap_or-length.ensures))) in
    omega (arith, passed.1)

pub returns-clause-equal : goal.returns-clause-equal
returns-clause-equal c = λ word host single.
    (pairs_passed c.args.value.now word host c.args.content.now (omega arith) single
    (λ i. omega (arith, c.type_inv.value i)) (λ i. omega (arith, c.type_inv.content i)) c.args.at c.args.end
    c.pass_pairs.result.length c.pass_pairs.result.firsts c.requires.order c.requires.inside c.pass_pairs.ensures.limit
    (rw (take_rest c.args.content.now c.args.at) at c.pass_pairs.ensures.passed)).0

pub returns-clause-counted : goal.returns-clause-counted
returns-clause-counted c = λ word host single.
    (pairs_passed c.args.value.now word host c.args.content.now (omega arith) single
    (λ i. omega (arith, c.type_inv.value i)) (λ i. omega (arith, c.type_inv.content i)) c.args.at c.args.end
    c.pass_pairs.result.length c.pass_pairs.result.firsts c.requires.order c.requires.inside c.pass_pairs.ensures.limit
    (rw (take_rest c.args.content.now c.args.at) at c.pass_pairs.ensures.passed)).1
