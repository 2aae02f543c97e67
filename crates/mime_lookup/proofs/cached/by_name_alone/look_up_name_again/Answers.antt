use Rattle.std.proofs.Common.{arith}
use Rattle.mime_lookup.proofs.LookUpLemmas.NameLookUps.{naming}
use Rattle.mime_lookup.proofs.cached.by_name_alone.look_up_name_again.Goals as goal

pub returns : goal.returns
returns c =
    let step = c.ask_opened-found in
    let is = step.ensures in
    record {
      promises = rw c.told.ensures (naming c.args.indexed.now c.args.name.now c.args.order step.result step.new.meter (omega arith)
          is.answers is.faults is.stops is.costs);
    }
