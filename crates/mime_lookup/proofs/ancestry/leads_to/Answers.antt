use Rattle.std.proofs.Common.{length, arith}
use Rattle.mime_lookup.specs.Places.{placed}
use Rattle.mime_lookup.proofs.AncestryLemmas.Marks.{none_marked}
use Rattle.mime_lookup.proofs.AncestryLemmas.SearchBytes.{search-start}
use Rattle.mime_lookup.proofs.ancestry.leads_to.Goals as goal

pub returns-clause-answer : goal.returns-clause-answer
returns-clause-answer c =
    c.in_ok-is.ensures.answer.answer (rw c.new-marks.ensures.empty (none_marked (placed c.args.both.now) c.args.base.now))

pub returns-in_err-is-clause-bytes : goal.returns-in_err-is-clause-bytes
returns-in_err-is-clause-bytes c =
    let asked = rw c.new-marks.ensures.empty at c.is_a.ensures.bytes in
    omega (arith, asked, search-start (placed c.args.both.now).parents 1 (length c.args.base.now))

pub returns-clause-bytes : goal.returns-clause-bytes
returns-clause-bytes c =
    let asked = rw c.new-marks.ensures.empty at c.is_a.ensures.bytes in
    omega (arith, asked, search-start (placed c.args.both.now).parents 1 (length c.args.base.now))
