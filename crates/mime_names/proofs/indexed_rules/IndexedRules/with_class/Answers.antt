use Rattle.std.proofs.Common.{rules}
use Rattle.std.proofs.lemmas.List.Elements.{All-push}
use Rattle.mime_names.specs.Rules.{IsIndexedRule}
use Rattle.mime_names.proofs.RepeatLemmas.{repeats-more}
use Rattle.mime_names.proofs.indexed_rules.IndexedRules.with_class.Goals as goal

pub invariant_of-result : goal.invariant_of-result
invariant_of-result c =
    let patterns = c.self.inside.patterns.items in
    let rules-before = c.self.inside.rules.items in
    let rule = c.indexed_rule-rule.result in
    rw c.in_ok-push.ensures.items (
      All-push (IsIndexedRule patterns) rules-before rule c.self.invariant.0 (search rules),
      repeats-more patterns rules-before rule c.self.invariant.1 (λ yes. search rules) (λ yes last is. search rules),
    )
