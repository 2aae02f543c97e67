use Rattle.std.proofs.Common.{map}
use Rattle.clap.specs.Words.{app_of}
use Rattle.mime_request.proofs.MeaningLemmas.Meanings.{clap_finds}
use Rattle.mime_request.proofs.request.parsed.Goals as goal

pub returns : goal.returns
returns g c = clap_finds (app_of c.in_ok-command.command) (map g.S.AsStr.text c.args.words.now) c.try_get_matches_from.result
    c.in_ok-command.ensures c.try_get_matches_from.ensures.matches c.try_get_matches_from.ensures.kinds
