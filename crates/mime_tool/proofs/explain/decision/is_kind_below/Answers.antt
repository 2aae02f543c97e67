use Rattle.mime_lookup.proofs.LookUpLemmas.SpelledParts.{spelled_pairs}
use Rattle.mime_tool.specs.ExplainSteps.{database_of}
use Rattle.mime_tool.proofs.explain.decision.is_kind_below.Goals as goal

pub returns-in-Ok : goal.returns-in-Ok
returns-in-Ok c =
    let it = c.args.explaining in
    let found = rw c.opened-indexed.ensures at c.in-Ok.ensures in
    found.answer (database_of it) (spelled_pairs it.bytes.now (database_of it) c.requires.ready.back.spelled)
