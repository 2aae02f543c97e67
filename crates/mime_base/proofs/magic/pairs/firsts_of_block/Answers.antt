use Rattle.std.proofs.Common.{ℕ, ◌<◌, bit_and, sym, ap, ap₂, refl, ◌∙◌, arith}
use Rattle.std.specs.Int.{bit_at}
use Rattle.std.proofs.lemmas.List.{take_rest}
use Rattle.std.proofs.lemmas.Nat.Bits.{bit_at-zero}
use Rattle.mime_base.proofs.MagicLemmas.PassedPairs.{passes_block, passes_lanes}
use Rattle.mime_base.proofs.MagicLemmas.StoppedPairs.{pair_in_block}
use Rattle.mime_base.proofs.magic.pairs.firsts_of_block.Goals as goal

pub returns-then-firsts-eq0-clause-some : goal.returns-then-firsts-eq0-clause-some
returns-then-firsts-eq0-clause-some c =
    passes_lanes c.args.first c.args.second c.args.bytes.now 32 (omega arith) (sym c.places_of-firsts.ensures ∙ c.if-firsts-eq0.true)

pub returns-clause-some : goal.returns-clause-some
returns-clause-some c =
    let seconds = rw (take_rest c.args.bytes.now 1) at c.places_of.ensures in
    rw c.places_of-firsts.ensures (passes_block c.args.first c.args.second c.args.bytes.now 32 32 c.requires (omega arith)
    (λ i below.
    ap (λ (n : ℕ). bit_at n i) (ap₂ bit_and (sym c.places_of-firsts.ensures) (sym seconds) ∙ c.if-firsts-places_of-ne0.false)
    ∙ bit_at-zero i)
    refl)

pub returns-then-firsts-places_of-ne0-clause-none : goal.returns-then-firsts-places_of-ne0-clause-none
returns-then-firsts-places_of-ne0-clause-none c = λ is.
    let seconds = rw (take_rest c.args.bytes.now 1) at c.places_of.ensures in
    let some : 0 < bit_and c.places_of-firsts.result c.places_of.result = omega arith in
    pair_in_block c.args.first c.args.second c.args.bytes.now c.requires (rw (c.places_of-firsts.ensures, seconds) at some)
