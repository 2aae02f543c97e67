use Rattle.std.proofs.Common.{◌≡◌, ◌∙◌}
use Rattle.std.proofs.lemmas.Result.{err_from_is_err_and}
use Rattle.mime_tool.proofs.CacheLemmas.Headers.{spelled_opens}
use Rattle.mime_tool.proofs.CacheLemmas.ListedRules.{rules_faulty, rules_found, rules_needed}
use Rattle.mime_tool.proofs.list.rules_of.Goals as goal

pub returns-in_err-cache-clause-need : goal.returns-in_err-cache-clause-need
returns-in_err-cache-clause-need c = λ b asked spells packed.
    let e = err_from_is_err_and c.from_residual.result c.from_residual.ensures.1 in
    absurd (spelled_opens c.args.cache.now b _ spells (rw c.new.ensures at c.in_err-cache.ensures.opened))

pub returns-clause-answer : goal.returns-clause-answer
returns-clause-answer c =
    let is : c.in_ok-cache.cache ≡ c.args.cache.now = c.in_ok-cache.ensures.opened.0 ∙ c.new.ensures in
    rules_found c.args.cache.now _ _ c.rules.result (rw is at c.rules.ensures.gives) (rw is at c.rules.ensures.text)

pub returns-clause-need : goal.returns-clause-need
returns-clause-need c =
    let is : c.in_ok-cache.cache ≡ c.args.cache.now = c.in_ok-cache.ensures.opened.0 ∙ c.new.ensures in
    rules_needed c.args.cache.now _ _ c.rules.result (rw is at c.of-budget.ensures.records) (rw is at c.rules.ensures.gives)

pub returns-clause-fault : goal.returns-clause-fault
returns-clause-fault c =
    let is : c.in_ok-cache.cache ≡ c.args.cache.now = c.in_ok-cache.ensures.opened.0 ∙ c.new.ensures in
    rules_faulty c.args.cache.now _ c.rules.result (rw is at c.rules.ensures.fault)
