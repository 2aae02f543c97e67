use Rattle.mime_store.proofs.RulesLemmas.Texts.{path_keeps}
use Rattle.mime_store.proofs.ending.Ending.new.Goals as goal

pub invariant_of-result : goal.invariant_of-result
invariant_of-result c =
    let kept = path_keeps c.args.rule.now c.start_of-start.ensures.limits in
    record { starts = c.start_of-start.ensures.start; bytes = c.start_of-start.ensures.bytes; goes_on = c.in_ok-rest.ensures; short = kept.0; no_zero = kept.1 }
