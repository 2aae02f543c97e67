use Rattle.std.proofs.Common.{ℕ, bit_and, sym, ap, ap₂, ◌∙◌, arith}
use Rattle.std.specs.Int.{bit_at}
use Rattle.std.proofs.lemmas.List.{take_rest}
use Rattle.std.proofs.lemmas.Nat.{and_le_l}
use Rattle.mime_base.proofs.MagicLemmas.Lanes.{none_before}
use Rattle.mime_base.proofs.MagicLemmas.PassedPairs.{passes_front}
use Rattle.mime_base.proofs.MagicLemmas.StoppedPairs.{stops_front}
use Rattle.mime_base.proofs.magic.pairs.pass_lanes.Goals as goal

pub returns-clause-passed : goal.returns-clause-passed
returns-clause-passed c =
    let seconds = rw (take_rest c.args.bytes.now 1) at c.places_of.ensures in
    let pairs = bit_and c.places_of-firsts.result c.places_of.result in
    rw c.places_of-firsts.ensures (passes_front c.args.first c.args.second c.args.bytes.now 32 c.min-length.result c.requires.block (omega arith)
    (λ i below.
    ap (λ (n : ℕ). bit_at n i) (ap₂ bit_and (sym c.places_of-firsts.ensures) (sym seconds))
    ∙ none_before pairs i (omega (arith, and_le_l c.places_of-firsts.result c.places_of.result)) (omega arith))
    (omega arith))

pub returns-clause-stops : goal.returns-clause-stops
returns-clause-stops c =
    let seconds = rw (take_rest c.args.bytes.now 1) at c.places_of.ensures in
    let pairs = bit_and c.places_of-firsts.result c.places_of.result in
    stops_front c.args.first c.args.second c.args.bytes.now 32 c.args.count c.min-length.result pairs c.requires.block c.requires.few
    (omega arith) (ap₂ bit_and c.places_of-firsts.ensures seconds)
    (omega (arith, and_le_l c.places_of-firsts.result c.places_of.result)) (λ below. omega arith)
