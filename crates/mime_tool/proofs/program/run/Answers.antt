use Rattle.std.proofs.Common.{map}
use Rattle.mime_tool.specs.Process.{known_process}
use Rattle.mime_tool.specs.Words.{heard}
use Rattle.mime_tool.proofs.RunLemmas.Replies.{asked_finishes}
use Rattle.mime_tool.proofs.program.run.Goals as goal

pub returns-clause-asked : goal.returns-clause-asked
returns-clause-asked g c = λ known q asks.
    asked_finishes (known_process g.I.Read.remaining g.I.Content.health c.args.process) (g.F.Files.writes c.args.files.now) _ _
    (heard c.args.raws.now (map g.S.AsStr.text c.args.words.now)) _ _ _ _ q asks (c.finish.ensures.answers known)
