use Rattle.mime_store.specs.Runs.{plain_run}
use Rattle.mime_store.proofs.ParentsLemmas.ParentLists.{run_row}
use Rattle.mime_store.proofs.parents.RunEntry2.write.Goals as goal

pub returns-clause-row : goal.returns-clause-row
returns-clause-row c =
    run_row c.append_text.new.out.items _ (plain_run c.args.self.now) _ _ _ c.in_ok-kind.ensures.stands
    c.in_ok-parents.ensures.grew c.in_ok-parents.ensures.stands
