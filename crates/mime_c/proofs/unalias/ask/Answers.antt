use Rattle.std.proofs.Common.{refl}
use Rattle.mime_c.specs.Reader.{refused}
use Rattle.mime_c.proofs.unalias.ask.Goals as goal

pub returns-in-Err-clause-promises : goal.returns-in-Err-clause-promises
returns-in-Err-clause-promises c = refused c.in-Err.fault c.in-Err.ensures.opened refl
