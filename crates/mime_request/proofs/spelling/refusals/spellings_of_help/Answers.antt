use Rattle.std.proofs.Common.{refl}
use Rattle.clap.proofs.OnLiterals.{clap_on_literals}
use Rattle.mime_request.specs.Request.{meaning_of}
use Rattle.mime_request.proofs.spelling.refusals.spellings_of_help.Goals as goal

pub returns-clause-flags : goal.returns-clause-flags
unfolding clap_on_literals meaning_of
returns-clause-flags c = (refl, (refl, (refl, (refl, (refl, (refl, (refl, (refl, (refl, (refl, (refl, (refl, (refl, (refl, (refl, (refl, (refl, (refl, tt))))))))))))))))))

pub returns-clause-command : goal.returns-clause-command
unfolding clap_on_literals meaning_of
returns-clause-command c words = refl
