use Rattle.std.proofs.Common.{ap, ◌∙◌}
use Rattle.mime_lookup.specs.Ancestry.{kinds_of}
use Rattle.mime_lookup.proofs.OrderLemmas.Candidates.{front_kinds}
use Rattle.mime_lookup.proofs.checking.asked_kinds.Goals as goal
use Rattle.mime_lookup.proofs.checking.asked_kinds.Goals.{then-not-by_magic, else-not-by_magic}

-- of all that match the first are asked where no magic holds
pub returns-in-AllGlobs-clause-asked : goal.returns-in-AllGlobs-clause-asked
returns-in-AllGlobs-clause-asked g c = λ content is.
    let b = g.A.Asked.plain c.args.database.now in
    let name = c.args.question.now.name.now in
    let named = rw c.in-AllGlobs.is at c.requires.named in
    let count = c.requires.count c.in-AllGlobs.is in
    rw (c.in-AllGlobs.is, ← is) elim c.if-not-by_magic.branch [
      | then-not-by_magic w ↦
          rw (w.kinds-is, w.if-not-by_magic.true)
          (ap kinds_of w.truncate.ensures.items ∙ front_kinds b name c.requires.limits c.args.named.kinds.items c.args.named.kept named count)
      | else-not-by_magic w ↦ rw (w.kinds-is, w.if-not-by_magic.false) named
    ]
