use Rattle.std.proofs.Common.{◌≡◌, ap, arith, length, nat_le, refl, true}
use Rattle.mime_tool.specs.ExplainSteps.{database_of}
use Rattle.mime_tool.specs.Line.{name_for}
use Rattle.mime_tool.proofs.AnswerLemmas.CachedStops.{fits_unless}
use Rattle.mime_tool.proofs.ExplainLemmas.Runs.{shown_content, unread_content}
use Rattle.mime_tool.proofs.explain.find.Goals as goal

pub returns-in_ok-lines-in-Ok : goal.returns-in_ok-lines-in-Ok
returns-in_ok-lines-in-Ok g c = λ stored has.
    let it = c.args.explaining in
    let name = name_for it.order c.args.file.now in
    let fit : nat_le (length name) 4096 ≡ true = fits_unless name _ refl
    (λ long. omega (arith, long, c.if-name_for-gt-LONGEST_NAME.false, ap length c.name_for.ensures)) in
    shown_content (database_of it) it.output it.order c.args.file.now g.R.Read.remaining g.R.Content.health it.name_only stored c.args.content.now
    c.in-Ok.front _ fit c.in-Ok.ensures has (rw c.as_deref.ensures.value at c.in_ok-lines-in-Ok.ensures)

pub returns-in-Err-Read : goal.returns-in-Err-Read
returns-in-Err-Read g c = λ stored has.
    let it = c.args.explaining in
    let name = name_for it.order c.args.file.now in
    let fit : nat_le (length name) 4096 ≡ true = fits_unless name _ refl
    (λ long. omega (arith, long, c.if-name_for-gt-LONGEST_NAME.false, ap length c.name_for.ensures)) in
    unread_content (database_of it) it.output it.order c.args.file.now g.R.Read.remaining g.R.Content.health it.name_only stored c.args.content.now
    fit (rw (c.in-Err-Read.is, c.in-Err-Read.field-0-is) at c.front_of.ensures) has
