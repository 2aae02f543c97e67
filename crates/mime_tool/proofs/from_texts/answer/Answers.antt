use Rattle.std.proofs.lemmas.Result.{err_from_is_err_and}
use Rattle.mime_lookup.specs.CheckingOrder.{globs_suffice}
use Rattle.mime_tool.proofs.AnswerLemmas.AnswersFrom.{comes_over, fault_accepted, fault_refused, never_refused}
use Rattle.mime_tool.proofs.AnswerLemmas.ContentReaders.{asks_early, asks_over, dirs_early, reader_early}
use Rattle.mime_tool.proofs.from_texts.answer.Goals as goal

pub returns-in_err-database-clause-accepted : goal.returns-in_err-database-clause-accepted
returns-in_err-database-clause-accepted g c = λ b says.
    let e = err_from_is_err_and c.from_residual.result c.from_residual.ensures.1 in
    rw (e.1, e.2) (fault_accepted c.args.dirs.now b c.args.name.now _ says c.in_err-database.ensures.fault)

pub returns-in_err-database-clause-refused : goal.returns-in_err-database-clause-refused
returns-in_err-database-clause-refused g c = λ i f refused.
    let e = err_from_is_err_and c.from_residual.result c.from_residual.ensures.1 in
    rw (e.1, e.2) (fault_refused c.args.dirs.now i f _ refused c.in_err-database.ensures.fault)

pub returns-clause-accepted : goal.returns-clause-accepted
returns-clause-accepted g c = λ b says.
    comes_over c.args.dirs.now _ b c.args.name.now _ _ _ _ c.in_ok-database.ensures.says says c.answer_over.ensures.comes

pub returns-clause-refused : goal.returns-clause-refused
returns-clause-refused g c = λ i f refused. absurd (never_refused c.args.dirs.now _ i f c.in_ok-database.ensures.says refused)

pub returns-in_err-database-clause-gives_up : goal.returns-in_err-database-clause-gives_up
returns-in_err-database-clause-gives_up g c =
    let e = err_from_is_err_and c.from_residual.result c.from_residual.ensures.1 in
    let early = dirs_early _ _ c.in_err-database.ensures.fault in
    rw (e.1, e.2) (reader_early g.R.Read.remaining g.R.Content.tally g.R.Content.health c.args.content.now _ early).gives_up

pub returns-in_err-database-clause-fails : goal.returns-in_err-database-clause-fails
returns-in_err-database-clause-fails g c =
    let e = err_from_is_err_and c.from_residual.result c.from_residual.ensures.1 in
    let early = dirs_early _ _ c.in_err-database.ensures.fault in
    rw (e.1, e.2) (reader_early g.R.Read.remaining g.R.Content.tally g.R.Content.health c.args.content.now _ early).fails

pub returns-in_err-database-clause-advances : goal.returns-in_err-database-clause-advances
returns-in_err-database-clause-advances g c =
    let e = err_from_is_err_and c.from_residual.result c.from_residual.ensures.1 in
    let early = dirs_early _ _ c.in_err-database.ensures.fault in
    rw (e.1, e.2) (reader_early g.R.Read.remaining g.R.Content.tally g.R.Content.health c.args.content.now _ early).advances

pub returns-in_err-database-clause-asked : goal.returns-in_err-database-clause-asked
returns-in_err-database-clause-asked g c = λ b says.
    let e = err_from_is_err_and c.from_residual.result c.from_residual.ensures.1 in
    let early = dirs_early _ _ c.in_err-database.ensures.fault in
    rw (e.1, e.2) (asks_early g.R.Content.health (globs_suffice b c.args.name.now c.args.order)
    c.args.content.now c.args.content.now _ early)

pub returns-clause-asked : goal.returns-clause-asked
returns-clause-asked g c = λ b says.
    asks_over g.R.Content.health c.args.dirs.now _ b c.args.name.now c.args.order _ _ _ c.in_ok-database.ensures.says says
    c.answer_over.ensures.asked
