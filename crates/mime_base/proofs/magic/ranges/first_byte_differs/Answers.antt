use Rattle.std.proofs.Common.{◌≡◌, length, sym, ◌∙◌, arith}
use Rattle.std.proofs.lemmas.Bool.{eqb-false, eqb-true}
use Rattle.mime_base.proofs.MagicLemmas.Skipping.{other_byte, without_bytes, word_of_one}
use Rattle.mime_base.proofs.magic.ranges.first_byte_differs.Goals as goal

pub returns-clause-equal : goal.returns-clause-equal
returns-clause-equal c = λ differ host.
    let none = without_bytes c.args.mask.now (eqb-true _ _ (sym c.is_empty.ensures ∙ c.if-not-is_empty.false)) in
    let some : length c.args.value.now ≡ 0 → ⊥ = eqb-false _ _ (sym c.is_empty-else-not-is_empty.ensures ∙ c.if-is_empty.false) in
    rw none (other_byte c.args.value.now c.args.word host c.args.content.now (omega (arith, some))
    (word_of_one c.args.word host (length c.args.value.now) (omega arith))
    (omega (arith, c.type_inv.value 0))
    (λ i. omega (arith, c.type_inv.content i)) c.args.at c.requires.inside (λ e. absurd (grind (arith, e, differ)))).0

pub returns-clause-counted : goal.returns-clause-counted
returns-clause-counted c = λ differ host.
    let none = without_bytes c.args.mask.now (eqb-true _ _ (sym c.is_empty.ensures ∙ c.if-not-is_empty.false)) in
    let some : length c.args.value.now ≡ 0 → ⊥ = eqb-false _ _ (sym c.is_empty-else-not-is_empty.ensures ∙ c.if-is_empty.false) in
    rw none (other_byte c.args.value.now c.args.word host c.args.content.now (omega (arith, some))
    (word_of_one c.args.word host (length c.args.value.now) (omega arith))
    (omega (arith, c.type_inv.value 0))
    (λ i. omega (arith, c.type_inv.content i)) c.args.at c.requires.inside (λ e. absurd (grind (arith, e, differ)))).1
