use Rattle.std.proofs.Common.{ℕ, List, ap, subst, ◌∙◌}
use Rattle.mime_c.specs.Icons.{IsIcons}
use Rattle.mime_c.specs.Opened.{Opened}
use Rattle.mime_c.proofs.database.icons.search.Goals as goal

pub returns-clause-promises : goal.returns-clause-promises
returns-clause-promises c =
    let is = c.icon_again-found.ensures in
    subst (λ (cache : List ℕ). IsIcons cache c.args.kind.now c.icon_again-found.result)
    (c.indexed.ensures ∙ ap (λ (it : Opened). it.cache) c.read_paid.ensures.same)
    (record {
      answer = is.answer;
      lists = is.lists;
      stops = is.stops;
      read = is.read;
      bounds = is.bounds;
    })
