use Rattle.mime_tool.proofs.RunLemmas.Programs.{answers_build}
use Rattle.mime_tool.proofs.program.answer.Goals as goal

pub returns-in-Build : goal.returns-in-Build
returns-in-Build g c = rw c.in-Build.is (answers_build _ _ _ _ _ _ _ c.build.ensures)
