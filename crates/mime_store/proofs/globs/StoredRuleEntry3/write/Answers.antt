use Rattle.mime_store.specs.Views.{rule_of}
use Rattle.mime_store.proofs.ListLemmas.Entries.{rule_row}
use Rattle.mime_store.proofs.globs.StoredRuleEntry3.write.Goals as goal

pub returns-clause-row : goal.returns-clause-row
returns-clause-row c =
    rule_row c.append_text.new.out.items _ (rule_of c.args.self.now) _ _ _ _ c.weight_and_flags.ensures
    (rw c.args.self.now.is_stored at (rw c.deref.ensures.value at c.in_ok-text.ensures.stands)) c.in_ok-kind.ensures.grew
    (rw c.bytes.ensures.text at c.in_ok-kind.ensures.stands)
