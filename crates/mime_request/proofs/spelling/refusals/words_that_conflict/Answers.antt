use Rattle.std.proofs.Common.{refl}
use Rattle.clap.proofs.OnLiterals.{clap_on_literals}
use Rattle.mime_request.specs.Request.{meaning_of}
use Rattle.mime_request.proofs.spelling.refusals.words_that_conflict.Goals as goal

pub returns : goal.returns
unfolding clap_on_literals meaning_of
returns c = (refl, (refl, (refl, (refl, (refl, (refl, (refl, (refl, (refl, (refl, (refl, (refl, (refl, (refl, (refl, (refl, (refl, tt)))))))))))))))))
