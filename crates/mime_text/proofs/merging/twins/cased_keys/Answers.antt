use Rattle.mime_text.proofs.Merges.TwinKeys.{copies-more, copies-same}
use Rattle.mime_text.proofs.merging.twins.cased_keys.Goals as goal
use Rattle.mime_text.proofs.merging.twins.cased_keys.Goals.{then-rule+in_ok-insert, else-rule}

pub loop-rule-preserved : goal.loop-rule-preserved
loop-rule-preserved c = λ rule.
    let rules = c.args.rules.now in
    let inside = c.loop-rule-test.true in
    elim c.if-rule.branch [
      | then-rule+in_ok-insert w ↦ rw w.keys-is (copies-more rules c.loop-rule.rule-index c.rule-item.result inside c.rule-item.is rule
          c.loop-rule.keys w.insert.new.self w.key_of.result w.if-rule.true w.in_ok-insert.ensures.keys
          w.key_of.ensures.weight w.key_of.ensures.kind w.key_of.ensures.pattern (c.loop-rule.invariant rule))
      | else-rule w ↦ rw w.keys-is (copies-same rules c.loop-rule.rule-index c.rule-item.result inside c.rule-item.is rule
          c.loop-rule.keys w.if-rule.false (c.loop-rule.invariant rule))
    ]
