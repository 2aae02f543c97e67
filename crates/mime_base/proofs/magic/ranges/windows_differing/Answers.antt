use Rattle.std.proofs.Common.{◌≡◌, ℕ, List, ◌+◌, ◌-◌, false, [], length, get_or, Some, refl, ap, ◌∙◌, arith}
use Rattle.mime_base.specs.Magic.Holds.{equals_from}
use Rattle.mime_base.specs.Magic.Ranges.{compared_from}
use Rattle.mime_base.specs.Magic.{line_from}
use Rattle.mime_base.specs.declared.magic.host.Host.{Host}
use Rattle.mime_base.proofs.MagicLemmas.Skipping.{all_differ, other_byte, word_of_one}
use Rattle.mime_base.proofs.magic.ranges.windows_differing.Goals as goal

-- the one window of a range, by its first byte
one_differs : (c : goal.Else-bytes-start) (host : Host)
    → (equals_from (line_from 0 0 1 c.args.value.now (Some [])) host c.args.content.now c.args.start c.args.range ≡ false)
    × (compared_from (line_from 0 0 1 c.args.value.now (Some [])) host c.args.content.now c.args.start c.args.range ≡ 1)
one_differs c host =
    let one : c.args.range ≡ 1 = omega (arith, c.if-range-eq1.true) in
    let same = ap (λ (bytes : List ℕ). get_or bytes c.args.start 0) c.bytes-bytes.ensures.same in
    rw one (other_byte c.args.value.now 1 host c.args.content.now c.requires.some (word_of_one 1 host (length c.args.value.now) (omega arith))
    (omega (arith, c.type_inv.value 0))
    (λ i. omega (arith, c.bytes-bytes.ensures.bytes i, ap (λ (bytes : List ℕ). get_or bytes i 0) c.bytes-bytes.ensures.same))
    c.args.start (omega arith) (λ e. c.if-bytes-start.false (same ∙ e)))

-- all windows of a range, by what is noted of their first bytes
noted_differ : (c : goal.Then-lacks) (host : Host)
    → (equals_from (line_from 0 0 1 c.args.value.now (Some [])) host c.args.content.now c.args.start c.args.range ≡ false)
    × (compared_from (line_from 0 0 1 c.args.value.now (Some [])) host c.args.content.now c.args.start c.args.range
    ≡ c.min-end.result - c.args.start)
noted_differ c host =
    let n : ℕ = c.min-end.result - c.args.start in
    let same = ap length c.bytes-bytes.ensures.same in
    all_differ c.args.value.now 1 host c.args.content.now c.requires.some (word_of_one 1 host (length c.args.value.now) (omega arith))
    (omega (arith, c.type_inv.value 0))
    (λ i. omega (arith, c.bytes-bytes.ensures.bytes i, ap (λ (bytes : List ℕ). get_or bytes i 0) c.bytes-bytes.ensures.same))
    c.args.start n c.args.range (omega (arith, same, c.min-end.ensures)) (λ fewer. omega (arith, same, c.min-end.ensures))
    (omega (arith, same, c.min-end.ensures))
    (λ i below e. c.if-lacks.ensures refl (c.args.start + i) (omega arith) (omega (arith, same, c.min-end.ensures)) e)

pub returns-else-bytes-start-clause-equal : goal.returns-else-bytes-start-clause-equal
returns-else-bytes-start-clause-equal c = λ some host. (one_differs c host).0

pub returns-else-bytes-start-clause-counted : goal.returns-else-bytes-start-clause-counted
returns-else-bytes-start-clause-counted c = λ some host. (one_differs c host).1

pub returns-then-lacks-clause-equal : goal.returns-then-lacks-clause-equal
returns-then-lacks-clause-equal c = λ some host. (noted_differ c host).0

pub returns-then-lacks-clause-counted : goal.returns-then-lacks-clause-counted
returns-then-lacks-clause-counted c = λ some host. (noted_differ c host).1
