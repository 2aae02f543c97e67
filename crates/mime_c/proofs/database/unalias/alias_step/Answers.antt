use Rattle.std.proofs.Common.{ℕ, List, subst}
use Rattle.mime_c.specs.Reader.{IsOfCache, opened}
use Rattle.mime_c.specs.Unalias.{IsAliasStep}
use Rattle.mime_c.proofs.database.unalias.alias_step.Goals as goal

pub returns-clause-promises : goal.returns-clause-promises
returns-clause-promises c =
    subst (λ (cache : List ℕ). IsOfCache cache (IsAliasStep cache c.args.kind.now) c.unalias.result) c.indexed-indexed.ensures
    (opened c.budget-budget.ensures.opens (record { answer = c.unalias.ensures.answer; given = c.unalias.ensures.given }))
