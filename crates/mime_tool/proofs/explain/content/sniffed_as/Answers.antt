use Rattle.std.proofs.Common.{◌∙◌, refl, sym}
use Rattle.mime_lookup.specs.Sniffing.{sniffed}
use Rattle.mime_tool.specs.ExplainSteps.{bytes_of, database_of}
use Rattle.mime_tool.proofs.ExplainLemmas.Sections.{sniffed-none, sniffed-section}
use Rattle.mime_tool.proofs.explain.content.sniffed_as.Goals as goal

pub returns-in-Some-default-clause-sniffed : goal.returns-in-Some-default-clause-sniffed
returns-in-Some-default-clause-sniffed c =
    let here = c.in-Some-default in
    c.unalias.ensures.resolved
    ∙ sym (sniffed-section (database_of c.args.explaining) here.kind.now here.field-0-1-0 (bytes_of c.args.front) (rw here.is-0 at c.requires.section))

pub returns-in-None-Some-clause-sniffed : goal.returns-in-None-Some-clause-sniffed
returns-in-None-Some-clause-sniffed c =
    let here = c.in-None-Some in
    rw here.is-1 (c.by_bytes.ensures
    ∙ sym (sniffed-none (database_of c.args.explaining) here.front.now (rw (here.is-0, here.is-1) at c.requires.section)))

pub returns-in-None-None-clause-sniffed : goal.returns-in-None-None-clause-sniffed
unfolding sniffed
returns-in-None-None-clause-sniffed c = rw c.in-None-None.is-1 refl
