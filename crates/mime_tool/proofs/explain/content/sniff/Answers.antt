use Rattle.std.proofs.Common.{arith}
use Rattle.std.proofs.lemmas.Bool.{false≢true}
use Rattle.mime_lookup.proofs.LookUpLemmas.SpelledParts.{spelled_magic}
use Rattle.mime_tool.specs.ExplainSteps.{database_of}
use Rattle.mime_tool.proofs.explain.content.sniff.Goals as goal

pub unreachable-requires : goal.unreachable-requires
unreachable-requires c =
    let b = database_of c.args.explaining in
    let back = c.requires.ready.back in
    let magic = spelled_magic c.args.explaining.bytes.now b back.limits back.spelled in
    let failed = rw (c.cache-cache.ensures.cache, c.opened-indexed.ensures) at c.in-Err.ensures in
    let records = rw c.opened-indexed.ensures at c.budget-budget.ensures.records in
    let value_bytes = rw c.opened-indexed.ensures at c.budget-budget.ensures.value_bytes in
    let answers = failed.answers magic.offsets b.sections magic.header magic.lines magic.magic in
    false≢true (answers.need tt (omega (arith, back.packed.records, records))
    (omega (arith, back.packed.values, value_bytes)))

pub returns-clause-section : goal.returns-clause-section
returns-clause-section c =
    let b = database_of c.args.explaining in
    let back = c.requires.ready.back in
    let magic = spelled_magic c.args.explaining.bytes.now b back.limits back.spelled in
    let found = rw (c.cache-cache.ensures.cache, c.opened-indexed.ensures) at c.in-Ok.ensures in
    (found.answers magic.offsets b.sections magic.header magic.lines magic.magic).answer
