use Rattle.std.proofs.Common.{refl}
use Rattle.mime_tool.proofs.AnswerLemmas.WatchedReaders.{watched_content}
use Rattle.mime_tool.proofs.line.watched.Watched.of.Goals as goal

pub returns-in-Some : goal.returns-in-Some
returns-in-Some g c = λ name_only stored is. watched_content g.R.Read.remaining g.R.Content.health _ _ name_only stored
    c.in-Some.reader _ refl refl (rw c.in-Some.is at is)
