use Rattle.mime_tool.proofs.DeskLemmas.Sinks.{flushed}
use Rattle.mime_tool.proofs.program.flush_after.Goals as goal

pub returns-in_err-status-clause-kept : goal.returns-in_err-status-clause-kept
returns-in_err-status-clause-kept g c = flushed _ _ _ c.flush-flushed.ensures.kept

pub returns-in_err-flushed-clause-kept : goal.returns-in_err-flushed-clause-kept
returns-in_err-flushed-clause-kept g c = flushed _ _ _ c.flush-flushed.ensures.kept
