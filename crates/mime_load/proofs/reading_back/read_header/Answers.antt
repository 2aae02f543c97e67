use Rattle.std.proofs.Common.{◌≡◌, ℕ, List, ap, length, rules, slice_index, arith}
use Rattle.mime_base.specs.Format.Header.{header_numbers, version}
use Rattle.mime_load.proofs.SameLemmas.{numbers_inside, same_numbers}
use Rattle.mime_load.proofs.reading_back.read_header.Goals as goal
use Rattle.mime_load.proofs.reading_back.read_header.Goals.{then-header-ne-VERSION-via-then-header-ne-VERSION, then-header-ne-VERSION-via-else-header-ne-VERSION+then-length}

pub returns-in_err-header-clause-need : goal.returns-in_err-header-clause-need
returns-in_err-header-clause-need c = λ offsets header within.
    let inside = numbers_inside c.args.source.now.counted.now 0 (header_numbers offsets) header in
    absurd (omega (arith, inside, c.in_err-header.ensures.fault))

pub returns-then-header-ne-VERSION-clause-need : goal.returns-then-header-ne-VERSION-clause-need
returns-then-header-ne-VERSION-clause-need c =
    let long : length c.in_ok-header.header ≡ 10 = search rules in λ offsets header within.
    let same : slice_index c.in_ok-header.header 0 ≡ version =
    ap (λ (ns : List ℕ). slice_index ns 0)
    (same_numbers c.args.source.now.counted.now 0 c.in_ok-header.header (header_numbers offsets) long c.in_ok-header.ensures.stand
    header) in
    absurd (elim c.then-header-ne-VERSION.branch [
      | then-header-ne-VERSION-via-then-header-ne-VERSION w ↦ w.if-header-ne-VERSION.true same
      | then-header-ne-VERSION-via-else-header-ne-VERSION+then-length w ↦ omega (arith, within, w.length.ensures, w.if-length.true)
    ])
