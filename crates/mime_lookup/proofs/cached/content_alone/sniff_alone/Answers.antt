use Rattle.mime_lookup.proofs.LookUpLemmas.ContentsAlone.{sniffing}
use Rattle.mime_lookup.proofs.cached.content_alone.sniff_alone.Goals as goal

pub returns : goal.returns
returns c =
    let step = c.open_and_sniff-found in
    let is = step.ensures in
    record {
      promises = rw c.told.ensures (sniffing c.args.cache c.args.content.now c.args.host step.result step.new.read step.new.meter
          is.answers is.faults is.stops is.looks is.bounds);
    }
