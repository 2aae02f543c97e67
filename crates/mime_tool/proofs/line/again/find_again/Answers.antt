use Rattle.std.proofs.Common.{◌≡◌, nat_le, inl, length, refl, true}
use Rattle.std.proofs.lemmas.Bool.{leb-true}
use Rattle.mime_lookup.proofs.LookUpLemmas.SpelledParts.{spelled_globs}
use Rattle.mime_tool.specs.Line.{name_for}
use Rattle.mime_tool.proofs.AnswerLemmas.CachedLines.{line_found}
use Rattle.mime_tool.proofs.AnswerLemmas.CachedStops.{fits_unless, line_refused, not_too_long, read_or_memory}
use Rattle.mime_tool.proofs.line.again.find_again.Goals as goal

pub returns-in-Ok : goal.returns-in-Ok
returns-in-Ok g c =
    let is : c.name_for-name.result.now ≡ name_for c.args.order c.args.file.now = c.name_for-name.ensures in
    let found = rw is at c.in-Ok.ensures in
    let answer = c.in-Ok.answer in
    let fit = fits_unless (name_for c.args.order c.args.file.now) _ refl (λ long. let bad = (found.stops.too_long long).1 in cc) in
    λ stored name_only output. line_found g.R.Read.remaining g.R.Content.health c.args.path.now c.args.cache.now c.args.cost output
    c.args.order c.args.file.now c.args.content.now
    c.look_up_again.new.content answer.kind.now answer.meter answer.read _ c.cost_of.ensures fit found.answers.allowed found.costs.bounds
    (λ b limits spells. found.answers.chosen b (inl (limits, spells))) found.reads.exact
    (λ b limits spells. (found.reads.asks b (spelled_globs c.args.cache.now b limits spells)).answers) stored name_only

pub returns-in-Cache : goal.returns-in-Cache
returns-in-Cache g c =
    let is : c.name_for-name.result.now ≡ name_for c.args.order c.args.file.now = c.name_for-name.ensures in
    let found = rw is at c.in-Err.ensures in
    let name = name_for c.args.order c.args.file.now in
    let fit : nat_le (length name) 4096 ≡ true = fits_unless name _ refl
    (λ long. not_too_long c.in-Err.stopped _ c.in-Cache.fault refl (found.stops.too_long long).1 c.in-Cache.is) in
    λ stored name_only output. line_refused g.R.Read.remaining g.R.Content.health c.args.path.now c.args.cache.now c.args.cost output
    c.args.order c.args.file.now c.in-Cache.fault c.faulty.result c.args.content.now c.faulty.ensures fit
    (rw c.in-Cache.is at found.stops.fault (leb-true (length name) 4096 fit))
    (λ b limits spells packed. rw c.in-Cache.is at (read_or_memory
    (found.stops.need b (inl (limits, spells)) spells.within packed (leb-true (length name) 4096 fit)))) stored name_only
