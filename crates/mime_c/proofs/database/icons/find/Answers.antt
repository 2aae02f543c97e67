use Rattle.std.proofs.Common.{Err, refl}
use Rattle.mime_c.proofs.database.icons.find.Goals as goal

pub returns-in-Err-clause-promises : goal.returns-in-Err-clause-promises
returns-in-Err-clause-promises c = record {
  outcome = Err c.in-Err.stopped;
  promised = c.in-Err.ensures.promises;
  told_so = (refl, c.stop_report.ensures);
}
