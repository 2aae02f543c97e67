use Rattle.std.proofs.Common.{◌∙◌, ℕ, List, Some, ap, refl, subst}
use Rattle.mime_c.specs.LookUp.{IsLookUp}
use Rattle.mime_c.specs.Opened.{Opened}
use Rattle.mime_c.proofs.Slices.{never_read}
use Rattle.mime_c.proofs.database.look_up.with_content.Goals as goal

pub returns-clause-promises : goal.returns-clause-promises
returns-clause-promises c =
    let is = c.look_up_again-found.ensures in
    subst (λ (cache : List ℕ). IsLookUp cache c.args.name.now c.args.content.now c.args.order c.look_up_again-found.result)
    (c.indexed.ensures ∙ ap (λ (it : Opened). it.cache) c.read_paid.ensures.same)
    (record {
      before = c.args.content;
      whole = refl;
      after = c.look_up_again-found.new.content;
      answers = is.answers;
      stops = is.stops;
      reads = is.reads;
      costs = is.costs;
    })

pub returns-clause-readable : goal.returns-clause-readable
returns-clause-readable c =
    never_read (Some c.args.content) c.look_up_again-found.new.content c.look_up_again-found.result c.look_up_again-found.ensures.reads.reader.fails
