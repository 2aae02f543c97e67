use Rattle.std.proofs.Common.{arith}
use Rattle.mime_lookup.proofs.LookUpLemmas.NameLookUps.{naming}
use Rattle.mime_lookup.proofs.cached.by_name_alone.look_up_name.Goals as goal

pub returns : goal.returns
returns c =
    let step = c.open_and_ask-found in
    let is = step.ensures in
    record {
      promises = rw c.told.ensures (naming c.args.cache c.args.name.now c.args.order step.result step.new.meter (omega arith)
          is.answers is.faults is.stops is.costs);
    }
