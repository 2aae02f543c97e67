use Rattle.std.proofs.Common.{ℕ, List, ap, subst, ◌∙◌}
use Rattle.mime_c.specs.IsA.{IsSubclassSearch}
use Rattle.mime_c.specs.Opened.{Opened}
use Rattle.mime_lookup.proofs.CostLemmas.ShortTexts.{is_type_name-short}
use Rattle.mime_c.proofs.database.is_a.search.Goals as goal

pub is_a_again-found-requires : goal.is_a_again-found-requires
is_a_again-found-requires c = record { base = is_type_name-short c.args.base.now c.requires.base }

pub returns-clause-promises : goal.returns-clause-promises
returns-clause-promises c =
    let is = c.is_a_again-found.ensures in
    subst (λ (cache : List ℕ). IsSubclassSearch cache c.args.kind.now c.args.base.now c.is_a_again-found.result)
    (c.indexed.ensures ∙ ap (λ (it : Opened). it.cache) c.read_paid.ensures.same)
    (record {
      answer = is.answer;
      stops = is.stops;
      spent = is.spent;
      read = is.read;
      bounds = is.bounds;
    })
