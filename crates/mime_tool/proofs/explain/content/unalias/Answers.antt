use Rattle.std.proofs.Common.{ap, arith, length, ⊎_elim}
use Rattle.mime_lookup.proofs.CostLemmas.ShortTexts.{text_short}
use Rattle.mime_tool.specs.ExplainSteps.{database_of}
use Rattle.mime_tool.proofs.explain.content.unalias.Goals as goal

pub unreachable-requires : goal.unreachable-requires
unreachable-requires c =
    let spells = c.requires.ready.back.spelled in
    let failed = rw c.opened-indexed.ensures at c.in-Err.ensures in
    failed.answer spells.offsets (database_of c.args.explaining).aliases spells.header spells.aliases

pub returns-clause-resolved : goal.returns-clause-resolved
returns-clause-resolved c =
    let spells = c.requires.ready.back.spelled in
    let found = rw c.opened-indexed.ensures at c.in-Ok.ensures in
    found.answer spells.offsets (database_of c.args.explaining).aliases spells.header spells.aliases

pub returns-clause-short : goal.returns-clause-short
returns-clause-short c =
    let cache = c.args.explaining.bytes.now in
    let found = rw c.opened-indexed.ensures at c.in-Ok.ensures in
    ⊎_elim
    (λ same. omega (arith, ap length same, text_short cache c.requires.text.0 c.args.kind.now c.requires.text.1))
    (λ text. text_short cache text.0 c.in-Ok.kind.now text.1)
    found.given.text
